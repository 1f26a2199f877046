pub mod PollReads
pub mod Soonest
pub mod Tellings
