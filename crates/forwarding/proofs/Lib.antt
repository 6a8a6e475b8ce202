mod Rows
mod Ranks
mod LowestHop
mod Traced
pub mod Refused
