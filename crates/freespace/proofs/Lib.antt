pub mod FreeLaws
pub mod NeighbourLaws
pub mod RunLaws
pub mod TakeLaws
pub mod TakenLaws
pub mod WalkLaws
