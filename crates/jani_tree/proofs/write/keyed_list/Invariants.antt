use Rattle.std.proofs.Common.{◌≡◌, ◌++◌, drop}
use Rattle.std.specs.Prelude.{map}
use Rattle.jani_table.specs.Node.{node}
use Rattle.jani_tree.specs.Canonical.{keyed_node}
use Rattle.jani_tree.proofs.write.keyed_list.Given as goal

abbrev pub invariant-items : goal.invariant-items
invariant-items l = map node l.items ++ map (keyed_node l.key) (drop l.n-index l.n-items) ≡ map (keyed_node l.key) l.n-items
