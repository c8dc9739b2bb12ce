pub mod Chosen
pub mod Cut
pub mod Filtered
pub mod Entered
pub mod Closing
