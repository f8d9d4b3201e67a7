use Rattle.std.specs.Prelude.{◌≡◌, drop}
use Rattle.prism_check.specs.Tables.{pair_for}
use Rattle.prism_check.proofs.tables.first_new_name.Given as goal

abbrev pub invariant-loop-pair : goal.invariant-loop-pair
invariant-loop-pair l = pair_for l.pairs l.name ≡ pair_for (drop l.pair-index l.pairs) l.name
