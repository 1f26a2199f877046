pub mod BadBytes
mod CappedNumbers
pub mod LastSpaces
pub mod Parts
pub mod Escaped
pub mod Utf8
pub mod ScalarSteps
