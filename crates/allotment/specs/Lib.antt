pub mod Vectors
pub mod Bytes
pub mod Calls
pub mod Challenges
pub mod Copies
pub mod Counts
pub mod Tabled
pub mod Weights
