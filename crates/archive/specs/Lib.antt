pub mod Fields
pub mod Outcome
pub mod Stripes
pub mod Contents
pub mod Entries
pub mod Texts
