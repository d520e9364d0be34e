mod Keepings
mod Outs
mod ReadSlots
