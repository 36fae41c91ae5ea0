pub mod Printed
pub mod DigitLaws
pub mod WordLaws
pub mod LineLaws
pub mod LengthLaws
pub mod WrittenLaws
pub mod ProgramLaws
