pub mod Modes
pub mod Parse
pub mod Names
pub mod Keys
pub mod Permissions
pub mod Uses
pub mod Copies
