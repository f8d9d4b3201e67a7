use Rattle.std.proofs.Common.{◌≡◌, map, take}
use Rattle.state_choices.specs.Views.{seen_of}
use Rattle.prism_instance.specs.Constants.{narrow_value}
use Rattle.prism_instance.proofs.start.answers.Given as goal

abbrev pub invariant-loop-value : goal.invariant-loop-value
invariant-loop-value l = map seen_of l.all.items ≡ map narrow_value (take l.value-index l.table)
