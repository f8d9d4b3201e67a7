use Rattle.std.proofs.Common.{◌≡◌, ◌++◌, map, drop}
use Rattle.std.specs.List.{zip}
use Rattle.prism_tree.specs.Syntax as prism
use Rattle.jani_tree.specs.Syntax as jani
use Rattle.jani_edges.specs.Parts.{variable}
use Rattle.jani_edges.specs.Code.{name_in}
use Rattle.jani_automata.proofs.parts.add_variables.Given as goal

abbrev pub invariant-loop-i : goal.invariant-loop-i
invariant-loop-i l =
    map jani.var_of l.all ++ map (λ p. variable (name_in l.names) l.has_condition p.0 p.1) (zip (map (λ x. prism.var_of x.now) (drop l.i l.vars)) (drop l.i l.entries))
    ≡ map jani.var_of l.initial.all ++ map (λ p. variable (name_in l.names) l.has_condition p.0 p.1) (zip (map (λ x. prism.var_of x.now) l.vars) l.entries)
