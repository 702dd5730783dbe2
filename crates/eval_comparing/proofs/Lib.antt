pub mod LevelLaws
pub mod Moving
pub mod Operands
pub mod PairLaws
