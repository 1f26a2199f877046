pub mod Words
pub mod Queues
pub mod Handing
pub mod Signals
pub mod Told
