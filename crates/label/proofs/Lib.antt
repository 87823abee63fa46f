pub mod HeaderLaws
pub mod IdentifierLaws
