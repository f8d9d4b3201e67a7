use Rattle.std.proofs.Common.{map, take}
use Rattle.std.specs.List.{AllZip}
use Rattle.prism_modules.specs.Code.{element_of}
use Rattle.jani_to_prism.specs.Given.{GivesOf}
use Rattle.jani_to_prism.proofs.given.given_by_each.Given as goal

abbrev pub invariant-loop-el : goal.invariant-loop-el
invariant-loop-el l = AllZip GivesOf l.all.items (map element_of (take l.el-index l.elements))
