pub mod Done
pub mod Places
pub mod Plans
pub mod Checks
