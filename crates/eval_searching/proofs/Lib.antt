pub mod AddLaws
pub mod CompareLaws
pub mod FoundLaws
pub mod PlaceLaws
pub mod StateLaws
pub mod ValueLaws
