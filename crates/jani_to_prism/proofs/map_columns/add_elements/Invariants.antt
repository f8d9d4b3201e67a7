use Rattle.std.proofs.Common.{◌≡◌, ◌++◌, map, take}
use Rattle.std.specs.List.{flat_map}
use Rattle.gathering.specs.Lists.{list_for}
use Rattle.prism_modules.specs.Code.{element_of, lasting_of}
use Rattle.jani_to_prism.specs.MapParts.{columns_at}
use Rattle.jani_to_prism.proofs.map_columns.add_elements.Given as goal

abbrev pub invariant-loop-el : goal.invariant-loop-el
invariant-loop-el l = l.all ≡ l.initial.all ++ flat_map (λ el. columns_at (map lasting_of (list_for l.homes el.number)) el) (map element_of (take l.el-index l.els))
