pub mod Owners
pub mod Beginnings
pub mod MadeProcesses
pub mod Histories
pub mod Steps
pub mod KeptEntries
