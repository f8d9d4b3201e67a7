use Rattle.std.proofs.Common.{◌≡◌, ◌++◌, take}
use Rattle.std.specs.List.{All, flat_map}
use Rattle.walk_texts.specs.Jobs.{IsNarrowStep}
use Rattle.walk_texts.specs.Lines.{step_line}
use Rattle.walk_texts.proofs.path.push_steps.Given as goal

abbrev pub invariant-loop-step : goal.invariant-loop-step
invariant-loop-step l = record {
  text : l.out.items ≡ l.fn.out.items ++ flat_map step_line (take l.step-index l.steps);
  narrow : All IsNarrowStep (take l.step-index l.steps);
}
