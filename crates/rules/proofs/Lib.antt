pub mod Positions
pub mod Finding
pub mod Numbers
pub mod Checking
pub mod Outcomes
pub mod Lawfully
