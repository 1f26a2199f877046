pub mod Entries
pub mod Blocks
pub mod Document
pub mod TaggingViews
pub mod Renumbering
