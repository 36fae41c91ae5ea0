pub mod Left
pub mod Plan
pub mod Times
