pub mod Held
pub mod Running
pub mod Settled
