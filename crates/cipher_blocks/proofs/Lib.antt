mod Common
pub mod BlockNumbers
pub mod FilledBlocks
pub mod HalfBlocks
