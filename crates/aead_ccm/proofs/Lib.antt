mod Common
pub mod FilledBlocks
pub mod Formats
pub mod Payloads
pub mod Chains
pub mod KeyStream
pub mod Tags
