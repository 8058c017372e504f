pub mod LaneLoops
pub mod Sources
