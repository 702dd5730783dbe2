pub mod Codes
pub mod Examples
pub mod IntLaws
pub mod ItemLaws
pub mod ReadLaws
pub mod TokenLaw
pub mod Utf8
pub mod WholeLaws
