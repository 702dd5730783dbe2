pub mod Evaluated
pub mod Executed
