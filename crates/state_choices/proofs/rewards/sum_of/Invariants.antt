use Rattle.std.proofs.Common.{map, drop}
use Rattle.std.specs.List.{flat_map}
use Rattle.state_choices.specs.Views.{item_of}
use Rattle.state_choices.specs.Items.{numbers_of}
use Rattle.state_choices.proofs.Partial.{IsSoFar, sums_run}
use Rattle.state_choices.proofs.rewards.sum_of.Given as goal

abbrev pub invariant-loop-item : goal.invariant-loop-item
invariant-loop-item l = IsSoFar sums_run (flat_map numbers_of (map item_of l.items)) (flat_map numbers_of (map item_of (drop l.item-index l.items))) l.sum
