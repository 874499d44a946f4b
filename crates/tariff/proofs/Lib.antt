pub mod HalfUp
pub mod AverageSize
pub mod Quoted
