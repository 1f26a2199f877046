pub mod Objects
pub mod Removed
pub mod Nodes
pub mod Entries
