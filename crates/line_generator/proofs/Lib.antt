mod Common
pub mod Ranges
pub mod Pieces
pub mod Maps
pub mod Alike
pub mod Imports
pub mod Steps
pub mod Orders
