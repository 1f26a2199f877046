pub mod Afters
pub mod Cuts
pub mod Deeds
pub mod Kept
pub mod Moves
pub mod Pulls
pub mod Takes
