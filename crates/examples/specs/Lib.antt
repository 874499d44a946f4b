pub mod Sessions
pub mod Examples
