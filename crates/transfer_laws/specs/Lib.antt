pub mod TransferLaws
pub mod ShutLaws
pub mod StreamLaws
pub mod TouchLaws
pub mod FileLaws
