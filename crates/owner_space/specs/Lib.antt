pub mod Owners
pub mod Naming
pub mod Isolation
