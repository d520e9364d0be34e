mod Common
pub mod Parsing
pub mod Devices
pub mod Refusals
