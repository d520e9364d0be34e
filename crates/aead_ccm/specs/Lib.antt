pub mod Chaining
pub mod Counting
pub mod Lengths
