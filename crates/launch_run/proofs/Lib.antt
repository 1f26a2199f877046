pub mod GeneratedAnswers
pub mod GeneratedInputs
pub mod Refusals
pub mod TopAnswers
pub mod LastLines
