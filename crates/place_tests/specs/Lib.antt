pub mod Called
pub mod Choice
pub mod Requests
