pub mod Events
pub mod Laws
pub mod Layout
pub mod Structures
