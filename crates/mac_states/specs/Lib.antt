pub mod Codes
pub mod HashStates
pub mod MacStates
pub mod Setups
