pub mod Roots
pub mod NextVolume
