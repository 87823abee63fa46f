pub mod Picking
pub mod Refusals
