pub mod Sizes
pub mod Table
pub mod Marks
pub mod Slots
