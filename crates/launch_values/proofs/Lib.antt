pub mod SoundValues
mod KeyOrder
pub mod FlowLoops
mod Ranges
