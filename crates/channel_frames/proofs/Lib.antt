pub mod Causes
pub mod Dividing
pub mod Examples
pub mod Judging
