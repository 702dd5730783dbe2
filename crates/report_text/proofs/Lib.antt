pub mod Examples
pub mod Limits
pub mod Places
pub mod Steps
pub mod Whole
