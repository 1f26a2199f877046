pub mod Finding
pub mod Split
pub mod Walk
pub mod Reading
pub mod Walking
pub mod Relation
pub mod Laws
