use Rattle.std.proofs.Common.{◌≡◌, ℕ, List, map, take}
use Rattle.std.specs.List.{flat_map}
use Rattle.prism_targets.specs.Marks.{given_by}
use Rattle.gathering.specs.Lists.{list_under}
use Rattle.prism_modules.specs.Code.{element_of}
use Rattle.jani_to_prism.specs.Given.{given_of}
use Rattle.jani_to_prism.proofs.given.given_by_all.Given as goal

abbrev pub invariant-loop-el : goal.invariant-loop-el
invariant-loop-el l = (x : List ℕ) → map given_of (list_under l.all x) ≡ flat_map (given_by x) (map element_of (take l.el-index l.elements))
