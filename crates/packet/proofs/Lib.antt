pub mod FieldLaws
pub mod PacketLaws
