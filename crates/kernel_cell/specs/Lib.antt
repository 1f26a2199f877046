pub mod Results
pub mod Asking
pub mod Acting
pub mod Handing
pub mod Recorded
pub mod Cell
