use Rattle.std.proofs.Common.{◌≡◌, map, take}
use Rattle.state_choices.specs.Views.{sum_of}
use Rattle.jani_instance.specs.Sound.{no_rewards}
use Rattle.jani_instance.proofs.instance.no_rewards.Given as goal

abbrev pub invariant-loop-structure : goal.invariant-loop-structure
invariant-loop-structure l = map sum_of l.rewards ≡ no_rewards (take l._structure-index l.structures)
