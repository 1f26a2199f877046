pub mod Endings
pub mod Losing
pub mod Reported
