pub mod Gathering
pub mod RoomParts
