pub mod Verbs
pub mod Orders
