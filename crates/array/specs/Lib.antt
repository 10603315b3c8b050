pub mod Decoding
pub mod Finding
pub mod Moving
pub mod Changes
pub mod Tables
pub mod Service
