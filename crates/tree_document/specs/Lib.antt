-- Which texts are tree documents, and what tree each means.
pub mod Building
pub mod Documents
pub mod Meaning
pub mod Printing
pub mod Left
pub mod Limits
pub mod SameTrees
pub mod Views
