pub mod DrainLemmas
pub mod MethodLemmas
pub mod TextLemmas
