pub mod Change
pub mod Planned
pub mod Prepared
