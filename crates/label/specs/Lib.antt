pub mod Calendar
pub mod Headers
pub mod Identifiers
pub mod LabelRules
pub mod Labels
pub mod LabelLaws
pub mod Fits
