use Rattle.std.specs.Prelude.{◌≡◌, map, take}
use Rattle.prism_tree.specs.Syntax.{module_of}
use Rattle.specialise_prism.specs.Specialised.{specialised_module}
use Rattle.constant_folding.specs.Tables.{known_in}
use Rattle.specialise_prism.proofs.file.folded_modules.Given as goal

abbrev pub invariant-loop-module : goal.invariant-loop-module
invariant-loop-module l = map module_of l.list ≡ map (specialised_module (known_in l.table)) (map module_of (take l.module-index l.modules))
