pub mod Builtins
pub mod Parts
