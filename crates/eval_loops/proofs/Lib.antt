pub mod ForTurns
