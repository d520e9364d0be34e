mod Common
mod Boxed
pub mod Lists
pub mod Keeping
pub mod Turning
pub mod Splitting
pub mod Joining
pub mod Ends
pub mod Passes
pub mod Using
