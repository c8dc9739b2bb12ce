pub mod Totals
pub mod Placements
pub mod Votes
pub mod Local
pub mod Weights
pub mod Ballots
pub mod Worked
