pub mod Policy
pub mod Narrow
