mod Common
pub mod Lists
pub mod Narrowings
pub mod Texts
