pub mod Kinds
pub mod Receivers
