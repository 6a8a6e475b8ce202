pub mod Held
pub mod Answered
