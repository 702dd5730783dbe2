pub mod Arithmetic
pub mod IntLaws
pub mod IntTexts
