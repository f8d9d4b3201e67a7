use Rattle.std.proofs.Common.{◌≡◌, ◌≤◌, ◌++◌, map, drop, length}
use Rattle.instance_start.specs.Columns.{constant_of}
use Rattle.name_rules.specs.Names.{under}
use Rattle.model_carrying.specs.Values.{values_there}
use Rattle.model_carrying.proofs.values.values_by.Given as goal

abbrev pub invariant-loop-i : goal.invariant-loop-i
invariant-loop-i l = record {
  values : l.values ++ values_there (map constant_of (drop l.i l.here)) (map constant_of (drop l.i l.there)) (under l.given) ≡ values_there (map constant_of l.here) (map constant_of l.there) (under l.given);
  within : l.i ≤ length l.there;
}
