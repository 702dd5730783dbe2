pub mod Messages
pub mod Running
pub mod Scripts
pub mod Talk
