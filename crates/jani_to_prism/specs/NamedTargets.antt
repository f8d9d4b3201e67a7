-- The targets of a file and its names, as the code has them together.
use Rattle.std.specs.Prelude.{◌≡◌}
use Rattle.jani_tree.specs.Syntax.{File}
use Rattle.prism_translation.specs.Names.{entries}
use Rattle.prism_targets.specs.Serving.{IsServing}
use Rattle.jani_to_prism.specs.declared.named_targets.NamedTargets.{NamedTargets}

pub record AreNamed (n : NamedTargets) (file : File) : Type 0 where
  pub serving_is : IsServing file n.serving
  pub entries_are : n.table.entries ≡ entries file
