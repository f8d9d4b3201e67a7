use Rattle.std.proofs.Common.{◌≡◌, ◌++◌, ℕ, map, take}
use Rattle.std.specs.List.{flat_map}
use Rattle.process_core.specs.Instance.{only_if}
use Rattle.gathering.specs.Lists.{list_for}
use Rattle.module_parts.specs.Code.{lasting_of}
use Rattle.module_parts.specs.Homes.{is_adopted}
use Rattle.module_parts.proofs.homes.add_adopted.Given as goal

abbrev pub invariant-loop-x : goal.invariant-loop-x
invariant-loop-x l =
    (k : ℕ) → map lasting_of (list_for l.all k) ≡ map lasting_of (list_for l.initial.all k) ++ flat_map (λ x. only_if (is_adopted l.writers k (lasting_of x)) (lasting_of x)) (take l.x-index l.vars)
