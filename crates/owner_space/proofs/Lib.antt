mod Common
pub mod Counts
pub mod Owned
pub mod Identifiers
mod Examples
pub mod Ranges
pub mod Alike
pub mod Stores
pub mod Recorded
pub mod StoreCalls
pub mod HandleCalls
pub mod OtherOwners
pub mod Start
pub mod Isolation
