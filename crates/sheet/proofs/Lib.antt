pub mod Readers
pub mod Checked
pub mod Lists
pub mod Tests
pub mod Whole
pub mod Loops
pub mod Accepted
pub mod Sheets
