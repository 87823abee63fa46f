pub mod Data
pub mod Forming
pub mod Judging
pub mod LawfulLaws
pub mod Lowest
pub mod SignedLaws
pub mod Words
