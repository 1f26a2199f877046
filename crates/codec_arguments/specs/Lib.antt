pub mod Arguments
pub mod Reading
pub mod Arrays
pub mod Ranges
pub mod Bytes
pub mod Structures
