pub mod Directives
pub mod ElfFile
pub mod Instructions
pub mod Items
pub mod Lines
pub mod Pieces
pub mod Sizes
