pub mod Guests
pub mod Dues
