pub mod Page
pub mod Numbers
pub mod Table
pub mod Borrowing
