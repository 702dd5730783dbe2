pub mod Joining
pub mod Quoting
pub mod QuotingForms
pub mod Searching
pub mod Spaces
pub mod Splitting
