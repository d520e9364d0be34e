mod Common
pub mod GhashSteps
pub mod CounterBlocks
pub mod Tags
