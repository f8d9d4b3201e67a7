use Rattle.std.proofs.Common.{◌≡◌, map, take}
use Rattle.name_table.specs.Gathered.{told}
use Rattle.prop_trees.specs.Syntax.{property_of}
use Rattle.prop_to_jani.specs.ToJani.{property_asks}
use Rattle.prop_to_jani.proofs.translation.ask_properties.Given as goal

abbrev pub invariant-loop-p : goal.invariant-loop-p
invariant-loop-p l = l.table ≡ told l.initial.table (property_asks (map property_of (take l.p-index l.props)))
