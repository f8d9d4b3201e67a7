use Rattle.std.proofs.Common.{◌≡◌, map, take}
use Rattle.std.specs.List.{filter}
use Rattle.prism_tree.specs.Syntax as prism
use Rattle.jani_edges.specs.Code.{wanted_by}
use Rattle.jani_edges.proofs.rewards.items_of.Given as goal

abbrev pub invariant-loop-i : goal.invariant-loop-i
invariant-loop-i l = map (λ i. prism.item_of i.now) l.all.items ≡ filter (λ i. wanted_by l.wanted i.on) (map prism.item_of (take l.i-index l.items))
