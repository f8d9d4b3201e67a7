use Rattle.std.proofs.Common.{◌≡◌, map, take}
use Rattle.prism_tree.specs.Syntax.{module_of}
use Rattle.prism_instance.specs.Shapes.{own_commands}
use Rattle.prism_instance.specs.Sites.{sorted, sorted_of}
use Rattle.prism_instance.proofs.modules.sorted_modules.Given as goal

abbrev pub invariant-loop-one : goal.invariant-loop-one
invariant-loop-one l = map sorted_of l.all.items ≡ map (λ m. sorted (own_commands m)) (map module_of (take l.one-index l.modules))
