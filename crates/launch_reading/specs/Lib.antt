pub mod LaunchText
pub mod Launch
pub mod Refusal
pub mod Inputs
