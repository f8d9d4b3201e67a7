use Rattle.std.proofs.Common.{◌≡◌, Some, false, take}
use Rattle.std.specs.List.{AllByRecursion}
use Rattle.op_trees.specs.Meaning.{is_wide_value}
use Rattle.constant_folding.proofs.given.given_are_small.Given as goal

abbrev pub invariant-loop-one : goal.invariant-loop-one
invariant-loop-one l = AllByRecursion (λ g. is_wide_value (Some g.value) ≡ false) (take l.one-index l.given)
