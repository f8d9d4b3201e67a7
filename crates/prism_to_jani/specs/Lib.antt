pub mod Names
pub mod Promise
pub use Rattle.jani_translation_laws.specs.SameMeaning
pub mod Filed
pub mod Statements
pub mod Maps
