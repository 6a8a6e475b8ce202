pub mod Plain
pub mod Orders
pub mod Distances
pub mod Once
pub mod Near
