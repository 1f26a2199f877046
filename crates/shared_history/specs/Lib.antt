pub mod Rule
pub mod Names
pub mod Passes
pub mod Keeper
pub mod Entries
pub mod Kept
