pub mod BindingLemmas
pub mod CellLemmas
pub mod PlaceLemmas
pub mod ReadingLemmas
