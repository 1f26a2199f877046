pub mod Bytes
pub mod Numbers
pub mod Proper
pub mod ReadBack
pub mod Unique
pub mod Written
