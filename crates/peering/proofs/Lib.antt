pub mod Answered
pub mod Gathering
pub mod Learned
