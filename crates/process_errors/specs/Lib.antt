pub mod Verdicts
pub mod FreeNumbers
pub mod ProcessErrors
pub mod ThreadErrors
pub mod ChannelErrors
pub mod LockErrors
pub mod PollErrors
