pub mod Ready
pub mod DeclaredLengths
pub mod Counted
pub mod Runs
pub mod Holding
pub mod Setups
