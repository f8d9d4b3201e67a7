use Rattle.std.proofs.Common.{◌≡◌, map, take}
use Rattle.prism_tree.specs.Syntax as prism
use Rattle.prism_targets.specs.Marks.{state_item}
use Rattle.prism_modules.specs.Code.{file_in, names_in}
use Rattle.jani_to_prism.specs.Given.{given_of}
use Rattle.jani_to_prism.proofs.rewards.state_items.Given as goal

abbrev pub invariant-loop-g : goal.invariant-loop-g
invariant-loop-g l = map prism.item_of l.all ≡ map (state_item (file_in l.names) (names_in l.names)) (map given_of (take l.g-index l.given))
