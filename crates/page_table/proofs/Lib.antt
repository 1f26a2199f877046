pub mod Tables
pub mod Indexes
pub mod SharedTables
pub mod Lowered
