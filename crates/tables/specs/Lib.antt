pub mod Accepted
pub mod Asked
pub mod Exits
