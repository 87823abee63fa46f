pub mod Fields
pub mod Packets
