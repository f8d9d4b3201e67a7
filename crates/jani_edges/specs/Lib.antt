pub mod Code
pub use Rattle.name_table.specs.Asks
pub use Rattle.jani_translation.specs.Parts
pub use Rattle.jani_translation.specs.Automata
pub use Rattle.jani_translation.specs.Translated
