pub mod Held
pub mod Calls
pub mod Coding
mod Listing
