pub mod Shape
pub mod Views
pub mod Encoding
pub mod Writing
pub mod Reading
pub mod Places
pub mod Faults
