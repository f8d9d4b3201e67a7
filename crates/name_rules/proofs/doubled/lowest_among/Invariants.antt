use Rattle.std.specs.Prelude.{◌≡◌, map, take, reverse}
use Rattle.name_rules.specs.Doubled.{lowest_of}
use Rattle.name_rules.specs.Names.{named_by}
use Rattle.name_rules.proofs.doubled.lowest_among.Given as goal

abbrev pub invariant-loop-n : goal.invariant-loop-n
invariant-loop-n l = l.lowest ≡ lowest_of l.name (reverse (map named_by (take l.n-index l.earlier)))
