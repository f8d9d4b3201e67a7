use Rattle.std.proofs.Common.{◌≡◌, map, take}
use Rattle.std.specs.Prelude.{is_none}
use Rattle.std.specs.List.{flat_map}
use Rattle.process_core.specs.Instance.{only_if}
use Rattle.module_parts.specs.Code.{lasting_of}
use Rattle.module_parts.specs.Homes.{home_by_table}
use Rattle.module_parts.proofs.homes.shared.Given as goal

abbrev pub invariant-loop-x : goal.invariant-loop-x
invariant-loop-x l = map lasting_of l.all.items ≡ flat_map (λ x. only_if (is_none (home_by_table l.writers (lasting_of x))) (lasting_of x)) (take l.x-index l.vars)
