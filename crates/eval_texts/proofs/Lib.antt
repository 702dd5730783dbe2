pub mod InstanceTexts
pub mod PartLaws
pub mod StackLaws
pub mod TupleItems
