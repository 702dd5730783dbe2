pub mod Alone
pub mod Endpoints
pub mod Machines
