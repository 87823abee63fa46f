pub mod Batches
pub mod FoundLaws
pub mod Laws
pub mod Passes
pub mod RowLaws
pub mod Tables
