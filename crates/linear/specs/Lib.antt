pub mod Equations
pub mod Elimination
pub mod Sets
