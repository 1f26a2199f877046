pub mod Random
pub mod RandomLaws
pub mod KnownAnswers
