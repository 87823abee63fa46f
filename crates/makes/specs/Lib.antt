pub mod Names
pub mod Shapes
