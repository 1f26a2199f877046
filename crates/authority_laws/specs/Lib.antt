pub mod Ledger
pub mod Recorded
pub mod Origins
pub mod Traces
pub mod Deliveries
pub mod Laws
