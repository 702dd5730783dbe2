pub mod BindingLemmas
pub mod BodyLemmas
pub mod CallLemmas
pub mod ParameterLemmas
