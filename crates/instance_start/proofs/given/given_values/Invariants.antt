use Rattle.std.proofs.Common.{◌≡◌, List, ℕ, drop}
use Rattle.std.specs.Option.{option_or}
use Rattle.name_rules.specs.Names.{under}
use Rattle.instance_start.specs.Given.{given_by}
use Rattle.instance_start.proofs.given.given_values.Given as goal

abbrev pub invariant-loop-one : goal.invariant-loop-one
invariant-loop-one l = (x : List ℕ) → option_or (under l.values x) (given_by (drop l.one-index l.given) x) ≡ given_by l.given x
