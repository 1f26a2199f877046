pub mod Kernel
pub mod Files
pub mod OffsetCalls
pub mod Entries
pub mod Opening
pub mod Waiting
pub mod Threads
pub mod Ends
