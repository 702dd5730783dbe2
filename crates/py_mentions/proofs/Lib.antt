pub mod Examples
pub mod MemberLaws
pub mod StandingLaws
pub mod WalkLaws
pub mod WorstLaws
