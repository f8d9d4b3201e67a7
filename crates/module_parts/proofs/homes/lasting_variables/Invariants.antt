use Rattle.std.proofs.Common.{◌≡◌, ◌++◌, map, drop}
use Rattle.process_core.specs.Instance.{numbered}
use Rattle.name_table.specs.JaniParts.{owned_of}
use Rattle.module_parts.specs.Code.{lasting_of, lasting_with}
use Rattle.module_parts.proofs.homes.lasting_variables.Given as goal

abbrev pub invariant-loop-i : goal.invariant-loop-i
invariant-loop-i l = map lasting_of l.all.items ++ numbered lasting_with l.i (map owned_of (drop l.i l.vars)) ≡ numbered lasting_with 0 (map owned_of l.vars)
