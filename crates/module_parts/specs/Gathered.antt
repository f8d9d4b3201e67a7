-- The parts of a file that the code gathers.
use Rattle.std.specs.Prelude.{◌≡◌, map}
use Rattle.jani_tree.specs.Syntax.{File}
use Rattle.jani_loops.specs.Elements.{element_view}
use Rattle.jani_meaning.specs.Elements.{elements, lasting, labels, structures}
use Rattle.name_table.specs.JaniParts.{owned_of}
use Rattle.module_parts.specs.declared.gathered.FileParts.{FileParts}

pub record AreGathered (g : FileParts) (file : File) : Type 0 where
  pub automata_are : map element_view g.automata.items ≡ elements file
  pub lasting_are : map owned_of g.lasting.items ≡ lasting file
  pub labels_are : map owned_of g.labels.items ≡ labels file
  pub structures_are : map owned_of g.structures.items ≡ structures file
