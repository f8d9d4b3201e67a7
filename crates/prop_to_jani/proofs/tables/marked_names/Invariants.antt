use Rattle.std.proofs.Common.{◌≡◌, map, take}
use Rattle.prop_trees.specs.Names.{marked}
use Rattle.prop_to_jani.proofs.tables.marked_names.Given as goal

abbrev pub invariant-loop-entry : goal.invariant-loop-entry
invariant-loop-entry l = l.all.items ≡ map (λ e. marked e.name) (take l.entry-index l.entries)
