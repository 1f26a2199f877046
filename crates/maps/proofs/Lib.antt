pub mod NumberEntries
pub mod Variants
pub mod Places
pub mod OrderedNames
pub mod Revalued
pub mod NameMaps
