use Rattle.std.proofs.Common.{◌≡◌, map, drop}
use Rattle.op_trees.specs.Tree.{tree}
use Rattle.prism_tree.specs.Syntax as prism
use Rattle.jani_translation.specs.Automata.{sum_behind}
use Rattle.jani_edges.specs.Code.{names_in}
use Rattle.jani_edges.proofs.rewards.sum_behind.Given as goal

abbrev pub invariant-loop-i : goal.invariant-loop-i
invariant-loop-i l =
    sum_behind (names_in l.names) (tree l.sum) (map (λ i. prism.item_of i.now) (drop l.i-index l.items))
    ≡ sum_behind (names_in l.names) (tree l.initial.sum) (map (λ i. prism.item_of i.now) l.items)
