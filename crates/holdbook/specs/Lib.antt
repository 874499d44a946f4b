pub mod Arguments
pub mod Problems
pub mod Runs
