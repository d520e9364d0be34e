pub mod Allotments
pub mod Staff
pub mod Given
pub mod Replies
pub mod Clients
pub mod Closing
