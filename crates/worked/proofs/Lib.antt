pub mod Mixing
pub mod Telling
pub mod Bits
pub mod Passing
pub mod Possible
pub mod Blanks
