mod Common
pub mod Lengths
pub mod CounterBlocks
pub mod Streams
pub mod Holding
pub mod Counting
pub mod Answering
pub mod Replying
