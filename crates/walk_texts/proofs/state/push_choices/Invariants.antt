use Rattle.std.proofs.Common.{◌≡◌, ◌++◌, map, drop}
use Rattle.process_core.specs.Instance.{numbered}
use Rattle.process_core.specs.Seen.{seen_choice}
use Rattle.walk_texts.specs.Lines.{choice_lines}
use Rattle.walk_texts.proofs.state.push_choices.Given as goal

abbrev pub invariant-loop-i : goal.invariant-loop-i
invariant-loop-i l = l.out.items ++ numbered choice_lines l.i (map seen_choice (drop l.i l.choices)) ≡ l.fn.out.items ++ numbered choice_lines 0 (map seen_choice l.choices)
