pub mod Computing
pub mod Contents
pub mod Dumping
pub mod MessageLines
pub mod Stepping
