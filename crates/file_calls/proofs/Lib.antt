pub mod Done
pub mod Walks
pub mod Reworked
pub mod Heads
pub mod Pages
