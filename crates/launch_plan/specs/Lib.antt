pub mod Files
pub mod Tagged
pub mod Values
pub mod Sizes
pub mod Plan
