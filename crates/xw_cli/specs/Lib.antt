pub mod SessionFiles
pub mod Journals
pub mod Answered
pub mod Unended
pub mod Performed
pub mod Called
