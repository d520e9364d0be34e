pub mod Dues
pub mod Phases
pub mod States
pub mod Turns
