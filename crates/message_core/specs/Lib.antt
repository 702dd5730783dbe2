pub mod Arguments
pub mod Judging
pub mod Messages
pub mod PeerNames
