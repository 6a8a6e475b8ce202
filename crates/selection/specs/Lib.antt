pub mod Laws
pub mod Plain
pub mod Ranks
pub mod Stages
pub mod Undeclared
