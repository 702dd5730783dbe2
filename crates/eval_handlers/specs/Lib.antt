pub mod Choosing
pub mod Entering
pub mod Telling
pub mod Unbinding
