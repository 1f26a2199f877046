pub mod Decodes
pub mod HighParts
