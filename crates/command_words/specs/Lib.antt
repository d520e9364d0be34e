pub mod Options
pub mod Parser
pub mod Reading
pub mod Values
pub mod Words
