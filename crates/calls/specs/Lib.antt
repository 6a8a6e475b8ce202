pub mod Calls
pub mod Refusals
pub mod Typed
pub mod Turns
pub mod History
pub mod Rounds
pub mod Promise
pub mod Follows
