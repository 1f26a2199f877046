pub mod Encoding
pub mod Fields
pub mod Ops
pub mod Words
