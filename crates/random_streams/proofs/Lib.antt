mod Common
pub mod SeedWords
pub mod Drawing
pub mod FirstWord
mod WordVectors
