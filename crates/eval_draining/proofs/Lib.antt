pub mod AskingNext
pub mod Counting
pub mod Growing
