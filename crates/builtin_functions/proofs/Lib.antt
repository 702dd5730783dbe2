pub mod IntTexts
pub mod NoItems
pub mod Strip
