pub mod AnswerLemmas
pub mod CompareLemmas
pub mod ItemLemmas
pub mod TupleLemmas
