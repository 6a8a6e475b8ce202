pub mod Answers
pub mod Promise
pub mod Tells
