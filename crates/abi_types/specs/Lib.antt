pub mod CallNumbers
pub mod Numbers
pub mod Families
pub mod OpenTypes
pub mod Lists
