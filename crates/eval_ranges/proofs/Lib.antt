pub mod CellSteps
pub mod RangeLemmas
pub mod SpecialLemmas
