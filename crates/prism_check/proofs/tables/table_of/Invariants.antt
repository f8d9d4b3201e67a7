use Rattle.std.specs.Prelude.{◌≡◌, ℕ, List, drop}
use Rattle.std.specs.Option.{option_or}
use Rattle.prism_check.specs.Tables.{pair_for, name_under}
use Rattle.prism_check.proofs.tables.table_of.Given as goal

abbrev pub invariant-loop-pair : goal.invariant-loop-pair
invariant-loop-pair l = (x : List ℕ) → option_or (name_under l.table x) (pair_for (drop l.pair-index l.pairs) x) ≡ pair_for l.pairs x
