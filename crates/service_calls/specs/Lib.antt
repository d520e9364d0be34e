pub mod Answered
pub mod Meanings
pub mod Random
pub mod Answers
pub mod Asked
