use Rattle.std.proofs.Common.{◌≡◌, ◌++◌, drop}
use Rattle.std.specs.Prelude.{map}
use Rattle.jani_table.specs.Node.{node}
use Rattle.jani_tree.proofs.write.list_json.Given as goal

abbrev pub invariant-items : goal.invariant-items
invariant-items g l = map node l.items ++ map (λ x. g.T.Written.shown (g.T.Written.seen x)) (drop l.x-index l.x-items) ≡ map (λ x. g.T.Written.shown (g.T.Written.seen x)) l.x-items
