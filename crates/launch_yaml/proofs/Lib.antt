pub mod SoundRows
pub mod Splits
pub mod Loops
pub mod Depths
