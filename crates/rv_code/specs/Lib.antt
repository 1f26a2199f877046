pub mod Decoding
pub mod Formats
pub mod Immediates
pub mod Operations
pub mod Rows
