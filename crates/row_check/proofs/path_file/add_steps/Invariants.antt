use Rattle.std.proofs.Common.{◌≡◌, ◌++◌, map}
use Rattle.row_check.proofs.path_file.add_steps.Given as goal

abbrev pub invariant-loop-step : goal.invariant-loop-step
invariant-loop-step l = record {
  states : l.path.states ≡ l.initial.path.states ++ map (λ s. s.state) l.yielded;
  labels : l.path.labels ≡ l.initial.path.labels ++ map (λ s. s.label) l.yielded;
}
