pub mod Outcomes
pub mod RunWords
pub mod WordTests
pub mod WordsLaws
