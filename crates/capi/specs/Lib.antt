pub mod Calls
pub mod Records
pub mod Reports
pub mod Small
