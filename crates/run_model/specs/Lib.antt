pub mod World
pub mod Own
pub mod Legal
pub mod Ends
pub mod Confined
pub mod Laws
pub mod OwnLaws
pub mod ThreadLaws
