pub mod Cuts
pub mod Decimals
pub mod Examples
pub mod Names
