pub mod Filled
pub mod Rowing
pub mod Standing
pub mod Kept
