pub mod Peered
pub mod Seen
