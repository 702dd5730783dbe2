pub mod BitLaws
pub mod Division
pub mod Examples
pub mod Fitting
pub mod Powers
