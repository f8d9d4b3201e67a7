use Rattle.std.proofs.Common.{◌≡◌, ◌++◌, drop}
use Rattle.std.specs.Prelude.{map}
use Rattle.jani_tree.proofs.automata.copy_list.Given as goal

abbrev pub invariant-items : goal.invariant-items
invariant-items g l = map g.T.Copied.seen l.copies ++ map g.T.Copied.seen (drop l.x-index l.items) ≡ map g.T.Copied.seen l.items
