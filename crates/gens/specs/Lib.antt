pub mod Records
pub mod Lookups
pub mod Joint
