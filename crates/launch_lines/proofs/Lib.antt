pub mod FirstFaults
pub mod KeptRows
pub mod Pieces
pub mod Ends
