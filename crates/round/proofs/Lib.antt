pub mod Appending
pub mod Counting
pub mod Going
pub mod Allotting
pub mod Standing
pub mod Noting
pub mod Writing
