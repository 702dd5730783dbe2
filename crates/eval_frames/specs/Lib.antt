pub mod ClassFrames
pub mod HandlerFrames
pub mod ListFrames
pub mod LoopFrames
pub mod Meaning
pub mod MethodFrames
pub mod ObjectFrames
pub mod TargetFrames
