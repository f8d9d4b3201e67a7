use Rattle.std.proofs.Common.{◌≡◌, List, ℕ, map, drop}
use Rattle.std.specs.Option.{option_map, option_or}
use Rattle.name_rules.specs.Names.{under}
use Rattle.instance_start.specs.Columns.{constant_of}
use Rattle.instance_start.specs.Given.{constant_called}
use Rattle.instance_start.proofs.given.constants_called.Given as goal

abbrev pub invariant-loop-constant : goal.invariant-loop-constant
invariant-loop-constant l =
    (x : List ℕ) → option_or (option_map constant_of (under l.called x)) (constant_called (map constant_of (drop l.constant-index l.constants)) x)
    ≡ constant_called (map constant_of l.constants) x
