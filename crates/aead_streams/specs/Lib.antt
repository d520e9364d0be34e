pub mod TextHashes
pub mod GcmStates
pub mod Chains
pub mod CcmStates
pub mod Counters
pub mod Streams
pub mod Filled
