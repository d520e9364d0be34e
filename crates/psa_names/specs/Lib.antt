pub mod Tables
pub mod Names
pub mod Usages
pub mod Algorithms
pub mod Rows
pub mod Laws
pub mod Near
