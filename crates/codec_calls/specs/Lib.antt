pub mod Flags
pub mod ClockCalls
pub mod DescriptorCalls
pub mod LockCalls
pub mod ProcessCalls
pub mod SocketCalls
pub mod ThreadCalls
