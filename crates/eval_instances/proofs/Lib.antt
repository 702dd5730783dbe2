pub mod CallLemmas
pub mod LengthLemmas
pub mod OwnerLemmas
