pub mod Firsts
pub mod Numbering
pub mod Idle
pub mod Order
