mod Common
pub mod Tables
pub mod Obeyed
pub mod Buffers
pub mod StoreShape
pub mod Served
pub mod DrawnBytes
pub mod Filled
pub mod Recorded
pub mod Live
mod Examples
pub mod Steps
pub mod Derivations
pub mod Shape
pub mod DerivedBytes
pub mod Operations
pub mod Others
pub mod LeftAll
pub mod Follows
pub mod SoundService
pub mod GainNothing
pub mod Origin
pub mod Found
pub mod Sound
pub mod Starts
pub mod Causes
pub mod KeysAfter
pub mod Unmarked
