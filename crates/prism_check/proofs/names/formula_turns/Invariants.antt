use Rattle.std.specs.Prelude.{◌≡◌, ◌++◌, drop}
use Rattle.name_rules.specs.Circles.{turns_from}
use Rattle.prism_check.proofs.names.formula_turns.Given as goal

abbrev pub invariant-loop-turn : goal.invariant-loop-turn
invariant-loop-turn l = l.list.items ++ turns_from l.constants (drop l.turn-index l.turns) ≡ turns_from l.constants l.turns
