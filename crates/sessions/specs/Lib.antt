pub mod Answers
pub mod Parting
pub mod Verdicts
