pub mod SameSheets
pub mod Filled
