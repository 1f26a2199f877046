pub mod Command
pub mod Found
pub mod Generating
pub mod Laws
pub mod Pieces
pub mod Reading
pub mod Settings
pub mod Values
