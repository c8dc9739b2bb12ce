pub mod Challenging
pub mod Handing
pub mod Judging
pub mod Lined
