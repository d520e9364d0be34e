mod Common
pub mod Blocks
pub mod Chaining
pub mod Numbers
