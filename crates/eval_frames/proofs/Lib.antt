pub mod Answering
pub mod Operating
pub mod Shapes
pub mod Turns
