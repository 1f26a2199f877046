pub mod Stops
pub mod TurnLaws
pub mod PlaceLaws
pub mod Slots
pub mod KeptLaws
