pub mod Equations
pub mod Giving
pub mod Agreeing
pub mod Places
