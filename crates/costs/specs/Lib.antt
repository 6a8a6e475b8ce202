pub mod Cost
pub mod Walks
pub mod Least
pub mod Once
