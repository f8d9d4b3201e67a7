use Rattle.std.proofs.Common.{◌≡◌, map, take}
use Rattle.prism_tree.specs.Syntax as prism
use Rattle.prism_tree.specs.Syntax.{plain}
use Rattle.prism_targets.specs.Modules.{module_of}
use Rattle.module_parts.specs.Code.{file_in, names_in, element_of}
use Rattle.prism_modules.proofs.element_modules.modules.Given as goal

abbrev pub invariant-loop-i : goal.invariant-loop-i
invariant-loop-i l = map prism.module_of l.all ≡ map (λ el. plain (module_of (file_in l.names) (names_in l.names) el)) (map element_of (take l.i l.els))
