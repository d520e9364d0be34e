pub mod Modes
pub mod Ways
pub mod Texts
pub mod States
pub mod Setups
