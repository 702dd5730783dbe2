pub mod ClassSteps
