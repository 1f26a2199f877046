pub mod Channels
pub mod ChannelLaws
pub mod Rings
