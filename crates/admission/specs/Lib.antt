pub mod Apply
pub mod Words
