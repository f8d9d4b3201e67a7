use Rattle.std.proofs.Common.{◌≡◌, ◌++◌, map, take}
use Rattle.std.specs.List.{flat_map}
use Rattle.prism_tree.specs.Syntax.{var_of}
use Rattle.name_table.specs.Gathered.{body_in}
use Rattle.name_table.proofs.gather.variables.Given as goal

abbrev pub invariant-loop-m : goal.invariant-loop-m
invariant-loop-m l = map (λ x. var_of x.now) l.all.items ≡ map var_of l.file.globals ++ flat_map (λ m. (body_in m).vars) (take l.m-index l.m-items)
