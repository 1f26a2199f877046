pub mod Firsts
pub mod Changing
pub mod Handed
pub mod Signalled
pub mod Telling
