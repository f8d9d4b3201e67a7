use Rattle.std.proofs.Common.{◌≡◌, ◌++◌, map, take}
use Rattle.std.specs.List.{flat_map}
use Rattle.prism_targets.specs.Lines.{location_line}
use Rattle.prism_modules.specs.Code.{names_in, element_of}
use Rattle.jani_to_prism.proofs.lines.add_location_lines.Given as goal

abbrev pub invariant-loop-el : goal.invariant-loop-el
invariant-loop-el l = l.lines ≡ l.initial.lines ++ flat_map (location_line (names_in l.names)) (map element_of (take l.el-index l.els))
