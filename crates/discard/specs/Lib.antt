pub mod Emitted
pub mod Shown
pub mod Given
pub mod ChangesView
pub mod Answered
