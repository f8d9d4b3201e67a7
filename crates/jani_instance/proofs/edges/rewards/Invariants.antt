use Rattle.std.proofs.Common.{◌≡◌, map, take}
use Rattle.state_choices.specs.Views as choices
use Rattle.jani_instance.specs.Views.{IsIn, look_at, reward_seen, setting_of}
use Rattle.jani_instance.proofs.edges.rewards.Given as goal

abbrev pub invariant-loop-assignment : goal.invariant-loop-assignment
invariant-loop-assignment l = IsIn (setting_of l.here) l.evaluation × (map choices.reward_of l.all ≡ map (reward_seen (look_at (setting_of l.here))) (take l.assignment-index l.assignments))
