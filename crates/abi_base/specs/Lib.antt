pub mod Errno
pub mod Grants
pub mod Registers
pub mod Rights
pub mod Signal
