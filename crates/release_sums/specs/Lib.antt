pub mod Freeds
pub mod FreedsOf
pub mod Summing
pub mod SumsLeft
