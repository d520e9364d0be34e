mod Common
pub mod AtSlots
mod Indexed
mod Laws
mod Linked
mod Tables
mod Times
mod Views
