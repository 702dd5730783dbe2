pub mod AttributeLemmas
pub mod ClassLemmas
pub mod CompareLemmas
pub mod FunctionLemmas
pub mod IteratorLemmas
pub mod PrivateNames
pub mod SpecialLemmas
