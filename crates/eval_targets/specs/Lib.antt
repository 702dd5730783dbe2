pub mod Kinded
pub mod Settled
