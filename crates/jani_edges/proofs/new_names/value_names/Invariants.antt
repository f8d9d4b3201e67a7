use Rattle.std.proofs.Common.{◌≡◌, ◌++◌, map, take}
use Rattle.prism_tree.specs.Syntax.{const_of, var_of}
use Rattle.jani_edges.proofs.new_names.value_names.Given as goal

abbrev pub invariant-loop-x : goal.invariant-loop-x
invariant-loop-x l = map (λ x. x.now) l.all.items ≡ map (λ c. c.name.name) (map const_of l.constants) ++ map (λ x. x.name.name) (map (λ x. var_of x.now) (take l.x-index l.vars))
