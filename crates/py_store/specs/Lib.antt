pub mod Attributes
pub mod Bindings
pub mod Cells
pub mod Computing
pub mod DigestLaws
pub mod Digests
pub mod EntryLists
pub mod Identities
