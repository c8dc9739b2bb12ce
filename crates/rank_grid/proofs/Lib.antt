pub mod Ranking
pub mod Running
pub mod Gridded
pub mod Standing
pub mod Kept
