pub mod Wording
pub mod Packed
pub mod Unpacked
pub mod Laws
