mod Common
pub mod Ended
