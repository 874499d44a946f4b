pub mod Alike
pub mod Answering
pub mod Courses
pub mod Reading
pub mod Served
pub mod SettingUp
