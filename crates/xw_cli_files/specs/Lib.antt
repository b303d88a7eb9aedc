pub mod Keeping
pub mod ReplayReports
pub mod WordLists
pub mod JournalFiles
pub mod Saved
pub mod Put
pub mod Converted
