use Rattle.std.proofs.Common.{◌≡◌, ◌++◌, map, drop}
use Rattle.std.specs.List.{zip}
use Rattle.prism_tree.specs.Syntax as prism
use Rattle.jani_tree.specs.Syntax as jani
use Rattle.jani_edges.specs.Parts.{label}
use Rattle.jani_automata.proofs.parts.add_labels.Given as goal

abbrev pub invariant-loop-i : goal.invariant-loop-i
invariant-loop-i l =
    map jani.var_of l.all ++ map (λ p. label p.0 p.1) (zip (map (prism.label_of) (drop l.i l.labels)) (drop l.i l.entries))
    ≡ map jani.var_of l.initial.all ++ map (λ p. label p.0 p.1) (zip (map (prism.label_of) l.labels) l.entries)
