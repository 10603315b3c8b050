pub mod Bounds
pub mod Refusals
pub mod Wording
pub mod Table
pub mod Calls
pub mod Reads
