pub mod ArgumentLemmas
pub mod CellLemmas
