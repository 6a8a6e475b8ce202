pub mod Ranks
pub mod Answers
pub mod Refusals
