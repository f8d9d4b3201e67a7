use Rattle.jani_table.specs.declared.table.Form.TheVariants as F
use Rattle.jani_tree.specs.Jani.{IsPart}
use Rattle.jani_tree.proofs.Lists.{Left}
use Rattle.jani_tree.proofs.build.parts_of.Given as goal

abbrev pub invariant-items : goal.invariant-items
invariant-items l = Left IsPart F.NameOrNull l.values l.x-index l.parts
