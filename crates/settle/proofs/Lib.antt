pub mod Injecting
pub mod Settling
pub mod Reporting
