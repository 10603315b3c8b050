pub mod Cuts
pub mod Adding
pub mod Telling
pub mod Counting
pub mod Examples
pub mod Printed
