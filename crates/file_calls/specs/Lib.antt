pub mod Opens
pub mod Walks
pub mod Done
pub mod Heads
