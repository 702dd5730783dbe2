pub mod FirstNamed
pub mod Taken
