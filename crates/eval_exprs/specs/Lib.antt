pub mod Callees
pub mod Making
pub mod Steps
