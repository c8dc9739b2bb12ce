pub mod Lengths
pub mod Parts
pub mod Whole
pub mod Refused
pub mod Trips
