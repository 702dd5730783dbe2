pub mod Evaluating
pub mod Moves
pub mod UnitsLeft
