pub mod Deciding
pub mod Outcome
pub mod Report
pub mod Statuses
pub mod Words
