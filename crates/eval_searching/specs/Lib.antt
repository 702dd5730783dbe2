pub mod Added
pub mod Compared
pub mod Places
pub mod Searched
pub mod Values
