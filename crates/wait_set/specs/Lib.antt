pub mod Next
pub mod Numbers
pub mod Queued
pub mod SpotQueues
pub mod Spots
pub mod Tied
pub mod Waits
