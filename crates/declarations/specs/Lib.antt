pub mod Held
pub mod Joined
