pub mod Answers
pub mod Computing
pub mod Counter
pub mod Journal
pub mod Modules
pub mod Settings
