use Rattle.std.proofs.Common.{◌≡◌, map, take}
use Rattle.state_choices.specs.Views.{seen_of}
use Rattle.jani_instance.proofs.constants.values.Given as goal

abbrev pub invariant-loop-one : goal.invariant-loop-one
invariant-loop-one l = l.all.items ≡ map (λ r. (seen_of r).value) (take l.one-index l.found)
