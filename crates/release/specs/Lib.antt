pub mod Given
pub mod Outcomes
pub mod BatchView
