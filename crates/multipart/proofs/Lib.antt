pub mod ByteLists
pub mod Stepping
