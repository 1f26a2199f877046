pub mod Forks
pub mod Programs
pub mod Signals
pub mod NewPrograms
