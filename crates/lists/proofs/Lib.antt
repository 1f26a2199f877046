pub mod Chosen
pub mod Steps
pub mod OptionSteps
