pub mod Keystream
pub mod Drawn
pub mod KnownAnswers
