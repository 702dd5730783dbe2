pub mod ArgumentLaws
pub mod ArgumentRows
pub mod Examples
pub mod ReadingLaws
