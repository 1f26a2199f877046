pub mod Codes
pub mod Room
pub mod Children
pub mod Programs
