pub mod Best
pub mod BestPlain
pub mod Hops
pub mod Ways
pub mod WaysPlain
