pub mod Closures
pub mod Waiting
