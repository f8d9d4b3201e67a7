use Rattle.std.proofs.Common.{◌≡◌, map, take}
use Rattle.prism_tree.specs.Syntax.{var_of}
use Rattle.name_table.proofs.gather.references.Given as goal

abbrev pub invariant-loop-x : goal.invariant-loop-x
invariant-loop-x l = map (λ x. var_of x.now) l.all.items ≡ map var_of (take l.x-index l.vars)
