pub mod Cases
pub mod DictEntries
pub mod Moving
pub mod Objects
pub mod Operands
pub mod Shapes
pub mod Tuples
