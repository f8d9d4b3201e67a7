use Rattle.std.proofs.Common.{◌≡◌, ◌&&◌, is_none, map, drop}
use Rattle.std.specs.List.{list_any}
use Rattle.name_rules.specs.Names.{under}
use Rattle.instance_start.specs.Columns.{constant_of}
use Rattle.instance_start.proofs.given.has_missing.Given as goal

abbrev pub invariant-loop-constant : goal.invariant-loop-constant
invariant-loop-constant l =
    list_any (λ c. c.is_open && is_none (under l.values c.name)) (map constant_of l.constants)
    ≡ list_any (λ c. c.is_open && is_none (under l.values c.name)) (map constant_of (drop l.constant-index l.constants))
