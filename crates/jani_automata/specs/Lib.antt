pub use Rattle.name_table.specs.Asks
pub use Rattle.jani_edges.specs.Parts
pub use Rattle.jani_edges.specs.Automata
pub use Rattle.jani_edges.specs.Translated
pub use Rattle.jani_edges.specs.Code
pub use Rattle.jani_edges.specs.declared.new_names.Names
