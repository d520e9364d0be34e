mod Common
pub mod Blocks
pub mod Turns
