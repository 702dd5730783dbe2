pub mod BindingLemmas
pub mod EntryLemmas
pub mod Examples
pub mod IdentityLemmas
pub mod Lines
pub mod Searches
pub mod Taking
