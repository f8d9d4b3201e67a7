use Rattle.jani_tree.specs.Jani.{IsKeyed}
use Rattle.jani_tree.proofs.Lists.{Left}
use Rattle.jani_tree.proofs.build.names_of.Given as goal

abbrev pub invariant-items : goal.invariant-items
invariant-items l = Left (IsKeyed l.key) l.item l.values l.x-index l.names
