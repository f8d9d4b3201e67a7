mod Translations
mod JaniTexts
pub mod Once
mod Paired
mod Held
pub use Rattle.jani_props.proofs.Only
