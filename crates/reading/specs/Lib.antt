pub mod Contents
pub mod Files
pub mod Outcomes
pub mod Places
pub mod Reading
pub mod Walking
