-- The records of a tree document, and the text that encodes each.
pub mod Paths
pub mod Escapes
pub mod Records
pub mod Views
pub mod Reading
