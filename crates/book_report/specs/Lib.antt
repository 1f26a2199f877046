pub mod Growth
pub mod Shown
pub mod Ends
pub mod KeptReports
pub mod AlikeReports
