use Rattle.std.proofs.Common.{◌≡◌, map, take}
use Rattle.prism_tree.specs.Syntax.{rewards_of}
use Rattle.prism_instance.specs.Shapes.{earned_in_states}
use Rattle.prism_instance.specs.Views.{items_of}
use Rattle.prism_instance.proofs.earnings.earned_in_states.Given as goal

abbrev pub invariant-loop-structure : goal.invariant-loop-structure
invariant-loop-structure l = map (λ k. items_of k.items) l.lists.items ≡ earned_in_states (map rewards_of (take l.structure-index l.rewards))
