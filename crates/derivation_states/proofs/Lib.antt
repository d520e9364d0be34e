mod Common
pub mod Blocks
pub mod Joined
pub mod Derived
pub mod Running
