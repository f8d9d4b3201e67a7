use Rattle.std.proofs.Common.{◌≡◌, map, take}
use Rattle.instance_start.specs.Columns.{constant_of}
use Rattle.constant_folding.specs.Constants.{const_of, described}
use Rattle.constant_folding.proofs.given.described.Given as goal

abbrev pub invariant-loop-constant : goal.invariant-loop-constant
invariant-loop-constant g l = map constant_of l.all.items ≡ map described (map const_of (take l.constant-index l.constants))
