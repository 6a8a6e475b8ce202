pub mod Listing
pub mod Refusals
