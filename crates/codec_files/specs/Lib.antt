pub mod ByPath
pub mod ByNode
pub mod Laws
