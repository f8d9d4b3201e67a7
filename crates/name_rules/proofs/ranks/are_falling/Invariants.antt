use Rattle.std.specs.Prelude.{◌≡◌, ℕ, ◌<◌, false, map, nat_lt}
use Rattle.name_rules.specs.Circles.{declared_at, declared_by}
use Rattle.name_rules.specs.Rounds.{rank_in, some_use}
use Rattle.name_rules.proofs.ranks.are_falling.Given as goal

abbrev pub invariant-loop-declaration : goal.invariant-loop-declaration
invariant-loop-declaration l = (i : ℕ) → i < l.declaration-index →
    some_use (λ z. nat_lt (rank_in l.ranks (declared_at (map declared_by l.all) i).name.name) (rank_in l.ranks z)) (declared_at (map declared_by l.all) i) ≡ false
