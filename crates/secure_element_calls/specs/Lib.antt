pub mod Calls
pub mod Answers
pub mod Given
pub mod Replies
