mod Common
pub mod Maps
pub mod Rooms
pub mod Searches
