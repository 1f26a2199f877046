pub mod InputParts
pub mod OutputParts
pub mod OutsideLaws
