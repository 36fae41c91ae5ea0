-- An accepted placement.
pub mod FitLaws
pub mod LruRootLaws
pub mod PlaceFits
pub mod PlaceLaws
pub mod PlacePhases
pub mod PointerLaws
pub mod ReadFits
