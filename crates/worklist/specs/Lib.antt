pub mod Records
pub mod Outcomes
