pub mod Ranks
pub mod Reading
pub mod Grid
