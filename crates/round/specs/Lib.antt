pub mod Account
pub mod Steps
pub mod Telling
pub mod Seen
pub mod Serving
pub mod Making
pub mod Theorems
