use Rattle.std.proofs.Common.{◌≡◌, take, false}
use Rattle.std.specs.List.{list_any}
use Rattle.process_core.specs.Choices.{weights_of, weighs_wrong}
use Rattle.process_core.specs.Bounds.{has_wide_sum, if_all}
use Rattle.state_choices.specs.Views.{command_of}
use Rattle.state_choices.proofs.faults.is_weighed_wrong.Given as goal

abbrev pub invariant-loop-r : goal.invariant-loop-r
invariant-loop-r l = record {
  narrow : list_any (λ r. if_all (weights_of (command_of r.now).updates) has_wide_sum) (take l.r-index l.participants) ≡ false;
  wrong : l.is_wrong ≡ list_any (λ r. weighs_wrong (weights_of (command_of r.now).updates)) (take l.r-index l.participants);
}
