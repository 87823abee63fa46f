mod Copies
pub mod Refills
