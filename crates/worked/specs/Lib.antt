pub mod Places
pub mod Examples
pub mod New
