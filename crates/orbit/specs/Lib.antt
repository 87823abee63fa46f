pub mod OrbitRules
pub mod OrbitWords
pub mod Orbits
pub mod Types
pub mod Values
pub mod OrbitKindLaws
pub mod OrbitLaws
