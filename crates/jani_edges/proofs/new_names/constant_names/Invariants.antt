use Rattle.std.proofs.Common.{◌≡◌, map, take}
use Rattle.prism_tree.specs.Syntax.{const_of}
use Rattle.jani_edges.proofs.new_names.constant_names.Given as goal

abbrev pub invariant-loop-c : goal.invariant-loop-c
invariant-loop-c l = map (λ x. x.now) l.all.items ≡ map (λ c. c.name.name) (map const_of (take l.c-index l.constants))
