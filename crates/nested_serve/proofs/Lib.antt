pub mod AloneRuns
pub mod Beginning
pub mod Endpoints
pub mod Steps
pub mod ClassSteps
pub mod WithinLaws
