use Rattle.std.specs.Prelude.{◌≡◌, ℕ, ◌+◌, List, [], map, drop}
use Rattle.name_rules.specs.Rounds.{count_in, waiting}
use Rattle.name_rules.specs.Circles.{declared_by}
use Rattle.name_rules.proofs.waiting.Waiting.of.Given as goal

abbrev pub invariant-loop-declaration : goal.invariant-loop-declaration
invariant-loop-declaration l = (x : List ℕ) →
    count_in l.waiting x + waiting (map declared_by (drop l.declaration-index l.all)) [] x ≡ waiting (map declared_by l.all) [] x
