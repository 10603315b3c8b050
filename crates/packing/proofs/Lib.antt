pub mod Steps
pub mod Words
pub mod Back
pub mod Enough
pub mod Examples
