pub mod SlotNames
pub mod SlotBytes
pub mod Slots
pub mod Borrowing
pub mod Listing
pub mod Kept
pub mod Checks
