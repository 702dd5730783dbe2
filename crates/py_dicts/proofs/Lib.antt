pub mod ArgumentLemmas
pub mod CellLemmas
pub mod EntryLemmas
