pub mod Keys
pub mod Sorting
