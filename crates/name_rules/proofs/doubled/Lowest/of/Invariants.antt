use Rattle.std.specs.Prelude.{◌≡◌, ℕ, List, map, drop}
use Rattle.name_rules.specs.Doubled.{lowest_under, lowest_of}
use Rattle.name_rules.specs.Names.{named_by}
use Rattle.name_rules.proofs.Clashes.{lower_of}
use Rattle.name_rules.proofs.doubled.Lowest.of.Given as goal

abbrev pub invariant-loop-n : goal.invariant-loop-n
invariant-loop-n l = (q : List ℕ) →
    lower_of (lowest_under l.lowest q) (lowest_of q (map named_by (drop l.n-index l.names))) ≡ lowest_of q (map named_by l.names)
