pub mod Sheets
pub mod DaySheets
pub mod Quarters
pub mod SheetLimits
