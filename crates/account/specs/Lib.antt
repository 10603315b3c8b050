pub mod Changes
pub mod Findings
pub mod Standings
pub mod Tallies
