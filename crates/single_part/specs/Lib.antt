pub mod Modes
pub mod Keyed
pub mod Elements
pub mod Hashing
pub mod Laws
