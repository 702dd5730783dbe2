pub mod Devices
pub mod FileMaps
