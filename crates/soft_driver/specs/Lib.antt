pub mod Sizes
pub mod Room
pub mod Form
