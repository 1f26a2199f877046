pub mod Kept
pub mod Ties
pub mod Outcomes
pub mod RunOutcomes
