pub mod Checks
pub mod Faults
pub mod Fields
pub mod Image
pub mod Segments
pub mod Sound
pub mod Laws
