-- Channels, by which bytes and descriptors go from one process to another: what waits in one, and what a send leaves in it and a read
-- takes from it. The crate `channels` defines them.
pub use Rattle.channels.specs.Channels.{Send, Channel, new_channel, bytes_of, carried_of, most_bytes, most_carried, room, is_open}
pub use Rattle.channels.specs.Channels.{has_room, is_hung, pushed, Push, hung, full, sends, push_if, push}
pub use Rattle.channels.specs.Channels.{is_none, plain_reach, reach, sends_after, sends_gone, coming, drawn_by, Pulled, taken, pull}
pub use Rattle.channels.specs.Channels.{is_empty, must_wait, some_carries, is_bounded, must_wait_for_all}
pub use Rattle.channels.specs.Channels.{shut_side, with_reader_shut, with_writer_shut, without_reader, without_writer, channel_left, is_gone, is_over}
pub use Rattle.channels.specs.Channels.{HasByte, IsChannel}
pub use Rattle.channels.specs.declared.side.SideState.{SideState}
pub use Rattle.channels.specs.declared.side.SideState.TheVariants.{Open, Shut, Gone}
