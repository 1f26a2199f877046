pub mod Filled
pub mod Marked
pub mod Picks
