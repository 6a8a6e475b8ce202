pub mod Coded
pub mod Tells
