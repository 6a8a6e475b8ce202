mod Promised
pub mod Telling
