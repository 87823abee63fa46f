pub mod Rows
pub mod Outside
pub mod Clears
