pub mod Examples
pub mod Limits
pub mod Lists
