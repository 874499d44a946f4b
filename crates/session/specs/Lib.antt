pub mod Fresh
pub mod Entries
pub mod Lines
pub mod Replies
pub mod Courses
pub mod Stands
pub mod Texts
