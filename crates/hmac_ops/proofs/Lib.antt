mod Common
pub mod Codes
pub mod Padding
pub mod Choices
pub mod Rotations
pub mod ScheduleWords
pub mod TwoBlocks
