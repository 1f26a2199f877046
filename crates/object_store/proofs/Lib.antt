pub mod Views
pub mod Nodes
pub mod Places
pub mod Kept
pub mod Unheld
