pub mod RunningTotal
pub mod LargestRemainder
pub mod LargestLaw
pub mod Accepting
pub mod Counts
pub mod Ranks
pub mod RunningLaw
