pub mod Faults
pub mod Lines
pub mod Rows
pub mod Views
