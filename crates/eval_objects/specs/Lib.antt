pub mod Comparisons
pub mod Iterators
pub mod Receivers
