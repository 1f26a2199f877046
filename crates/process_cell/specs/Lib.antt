pub mod Standing
pub mod Codes
pub mod Phases
pub mod Process
pub mod Steps
pub mod Driven
