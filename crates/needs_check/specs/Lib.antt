pub mod Rooms
pub mod inner
