pub mod Closure
pub mod Borrowing
pub mod Halves
pub mod Maps
pub mod NameTrees
pub mod Names
pub mod Placed
