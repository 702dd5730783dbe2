pub mod Bindings
pub mod KindedOperands
pub mod NameValues
pub mod OldValues
pub mod Receivers
pub mod Settling
