pub mod Methods
pub mod Owners
