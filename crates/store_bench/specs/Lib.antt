pub mod Keeping
pub mod Readers
