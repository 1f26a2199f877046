pub mod Assembling
pub mod Ranges
