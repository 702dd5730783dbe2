pub mod AcceptLaws
mod Examples
pub mod FinishLaws
pub mod FirstLaws
pub mod OneLaws
pub mod ScopeLaws
pub mod SetLaws
pub mod TableLaws
pub mod WorstLaws
