use Rattle.std.proofs.Common.{◌≡◌, map, drop}
use Rattle.std.specs.List.{list_any}
use Rattle.state_choices.specs.Views.{seen_of}
use Rattle.instance_start.proofs.faults.has_wide_value.Given as goal

abbrev pub invariant-loop-value : goal.invariant-loop-value
invariant-loop-value l = list_any (λ s. s.wide) (map seen_of l.values) ≡ list_any (λ s. s.wide) (map seen_of (drop l.value-index l.values))
