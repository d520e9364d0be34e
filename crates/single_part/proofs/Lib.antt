mod Common
mod Ciphering
mod Paddings
mod Replies
pub mod Uses
pub mod Models
pub mod Keys
pub mod Draws
