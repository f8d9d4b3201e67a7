use Rattle.std.proofs.Common.{◌≡◌, map}
use Rattle.choice_laws.specs.Columns.{counting}
use Rattle.carry_maps.specs.declared.map.Column.TheVariants.{Variable}
use Rattle.prism_to_jani.proofs.carry.columns.Given as goal

abbrev pub invariant-loop-i : goal.invariant-loop-i
invariant-loop-i l = l.all ≡ map Variable (counting 0 l.i)
