mod Common
pub mod Pairs
pub mod Agreeing
pub mod Sums
pub mod Counting
pub mod Wiping
