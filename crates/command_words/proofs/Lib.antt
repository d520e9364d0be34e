mod Common
pub mod Accepted
pub mod Asked
pub mod Hyphens
pub mod Numbers
pub mod OptionWords
pub mod Parts
pub mod Rows
pub mod RunWalk
pub mod Settings
