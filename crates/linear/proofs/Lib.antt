pub mod Equations
pub mod Values
pub mod Steps
pub mod Nulls
pub mod Verdicts
pub mod Telling
