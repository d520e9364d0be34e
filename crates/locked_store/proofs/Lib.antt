mod Common
pub mod Owning
pub mod Passing
pub mod Renewing
pub mod Turns
pub mod Computing
pub mod Closing
