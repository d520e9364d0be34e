pub mod Streams
pub mod Inputs
pub mod Outputs
pub mod States
pub mod Replies
pub mod KeySteps
