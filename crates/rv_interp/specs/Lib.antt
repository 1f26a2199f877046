pub mod Machine
pub mod Kinds
pub mod Values
pub mod Instructions
pub mod Turns
pub mod Slots
pub mod Cache
