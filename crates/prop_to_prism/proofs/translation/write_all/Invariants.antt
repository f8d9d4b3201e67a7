use Rattle.std.proofs.Common.{◌≡◌, ◌++◌, map, take}
use Rattle.prop_trees.specs.Syntax.{jani_property_of}
use Rattle.prop_to_prism.specs.Code.{all_written, name_in, names_of}
use Rattle.prop_to_prism.proofs.translation.write_all.Given as goal

abbrev pub invariant-loop-i : goal.invariant-loop-i
invariant-loop-i l = l.out.items ≡ l.initial.out.items ++ all_written (name_in l.names) (names_of l.rewards) (map jani_property_of (take l.i l.props)) l.entries
