pub mod Causes
pub mod Forms
