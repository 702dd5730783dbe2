pub mod Beginning
pub mod LoopTurns
