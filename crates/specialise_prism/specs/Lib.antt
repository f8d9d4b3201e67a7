pub mod Literal
pub mod LiteralLaws
pub mod Specialised
pub mod SameMeaning
pub mod Clean
