use Rattle.std.proofs.Common.{◌≡◌, map, take}
use Rattle.name_rules.specs.Circles.{declared_by}
use Rattle.constant_folding.specs.Constants.{const_of, declared}
use Rattle.constant_folding.proofs.constants.declarations.Given as goal

abbrev pub invariant-loop-constant : goal.invariant-loop-constant
invariant-loop-constant g l = map declared_by l.all.items ≡ map declared (map const_of (take l.constant-index l.constants))
