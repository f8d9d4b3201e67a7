use Rattle.std.proofs.Common.{◌≡◌, ℕ, List, map, take}
use Rattle.std.specs.List.{filter}
use Rattle.prism_tree.specs.Syntax.{item_of}
use Rattle.jani_translation.specs.Automata.{for_action}
use Rattle.jani_edges.specs.Code.{items_under}
use Rattle.jani_edges.proofs.shares.Items.of.Given as goal

abbrev pub invariant-loop-i : goal.invariant-loop-i
invariant-loop-i l = (x : List ℕ) → items_under l.all x ≡ filter (λ i. for_action x i.on) (map item_of (take l.i-index l.items))
