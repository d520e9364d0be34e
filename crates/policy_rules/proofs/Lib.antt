mod Common
mod Permitted
mod Meets
pub mod Usages
pub mod Copies
pub mod Rules
mod Examples
