pub mod LineParts
pub mod LaunchParts
pub mod Asked
pub mod Bounds
pub mod TextPlans
