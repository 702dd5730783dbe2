pub mod Assignments
pub mod Nodes
