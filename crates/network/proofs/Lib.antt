pub mod Whole
pub mod Changes
pub mod Activating
pub mod Rounds
pub mod AtRest
pub mod Listed
pub mod Answering
pub mod Traced
