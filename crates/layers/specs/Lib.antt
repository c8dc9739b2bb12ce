pub mod Shown
pub mod Closing
pub mod Kept
