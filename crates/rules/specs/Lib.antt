pub mod Words
pub mod Meaning
pub mod Questions
pub mod Refusals
