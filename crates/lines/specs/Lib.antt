pub mod Digits
pub mod Lines
pub mod Program
pub mod Printed
