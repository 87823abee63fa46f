pub mod ClockRules
pub mod ClockWords
pub mod RampRules
pub mod RampWords
pub mod ClockLaws
pub mod RampLaws
