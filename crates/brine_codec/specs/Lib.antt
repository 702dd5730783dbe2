pub mod Computing
pub mod Reading
pub mod Spelling
pub use Rattle.rp_base.specs.PlainLaws
pub use Rattle.rp_base.specs.PlainValues
