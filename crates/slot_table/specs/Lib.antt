pub mod Slots
pub mod Changes
pub mod Lent
pub mod Rows
pub mod Index
pub mod Links
