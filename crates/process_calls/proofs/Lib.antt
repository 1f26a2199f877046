pub mod Births
pub mod ExecCalls
