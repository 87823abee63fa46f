pub mod Counts
pub mod Outcomes
pub mod Scans
pub mod Turns
