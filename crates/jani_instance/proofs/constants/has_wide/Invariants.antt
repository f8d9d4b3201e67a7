use Rattle.std.proofs.Common.{◌≡◌, drop}
use Rattle.std.specs.List.{list_any}
use Rattle.state_choices.specs.Views.{seen_of}
use Rattle.jani_instance.proofs.constants.has_wide.Given as goal

abbrev pub invariant-loop-one : goal.invariant-loop-one
invariant-loop-one l = list_any (λ r. (seen_of r).wide) l.found ≡ list_any (λ r. (seen_of r).wide) (drop l.one-index l.found)
