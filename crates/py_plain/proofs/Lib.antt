pub mod CodePoints
pub mod Examples
pub mod Limits
pub mod PutLaws
pub mod Stands
pub mod TupleOrder
pub mod Weights
