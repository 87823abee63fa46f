pub mod Found
pub mod Orders
pub mod Places
pub mod RowWords
pub mod Rows
pub mod SummaryKeys
pub mod Tables
pub mod KeyLaws
