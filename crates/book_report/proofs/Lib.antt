pub mod BookEnds
pub mod KeptReports
pub mod AlikeReports
