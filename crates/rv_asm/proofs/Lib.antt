pub mod Assembling
pub mod ElfHeaders
pub mod ElfLoading
pub mod EmptyLine
pub mod ItemParts
