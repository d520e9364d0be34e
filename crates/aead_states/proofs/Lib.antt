pub mod Parting
pub mod Passing
pub mod Dues
