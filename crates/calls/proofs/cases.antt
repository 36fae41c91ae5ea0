-- Worked cases, answers and a history, computed.
pub mod Cases
pub mod Computed
pub mod WorkedAnswers
pub mod WorkedHistory
