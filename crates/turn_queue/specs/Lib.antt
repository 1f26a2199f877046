pub mod Numbered
pub mod Tickets
pub mod Codes
