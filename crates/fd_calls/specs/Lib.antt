pub mod AtOffset
pub mod Calls
