mod Common
mod Entries
pub mod Changes
pub mod Counts
mod Searching
