pub mod RandomWords
pub mod Generator
