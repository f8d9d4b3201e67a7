use Rattle.std.proofs.Common.{◌≡◌, ◌++◌, map, drop}
use Rattle.std.specs.List.{zip}
use Rattle.prism_tree.specs.Syntax as prism
use Rattle.jani_tree.specs.Syntax as jani
use Rattle.jani_translation.specs.Automata.{label_value}
use Rattle.jani_edges.specs.Code.{names_in}
use Rattle.jani_edges.proofs.locations.label_values.Given as goal

abbrev pub invariant-loop-i : goal.invariant-loop-i
invariant-loop-i l =
    map jani.write_of l.all ++ map (λ p. label_value (names_in l.names) p.0 p.1) (zip (map prism.label_of (drop l.i l.labels)) (drop l.i l.names.labels.now))
    ≡ map (λ p. label_value (names_in l.names) p.0 p.1) (zip (map prism.label_of l.labels) l.names.labels.now)
