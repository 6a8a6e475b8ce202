mod Digits
pub mod Strays
