use Rattle.std.specs.Prelude.{◌≡◌, map, take}
use Rattle.name_table.specs.Gathered.{told}
use Rattle.prop_trees.specs.Syntax.{jani_property_of}
use Rattle.prop_to_prism.specs.ToPrism.{property_asks}
use Rattle.prop_to_prism.proofs.translation.ask_all.Given as goal

abbrev pub invariant-loop-property : goal.invariant-loop-property
invariant-loop-property l = l.table ≡ told l.initial.table (property_asks (map jani_property_of (take l.property-index l.props)))
