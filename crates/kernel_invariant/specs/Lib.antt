pub mod Forks
pub mod Held
pub mod Readiness
pub mod Sockets
pub mod Waiting
