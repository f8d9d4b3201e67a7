use Rattle.std.proofs.Common.{◌≡◌, map, take}
use Rattle.prop_trees.specs.Names.{quoted}
use Rattle.prop_to_prism.proofs.names.quoted_names.Given as goal

abbrev pub invariant-loop-entry : goal.invariant-loop-entry
invariant-loop-entry l = l.texts.items ≡ map (λ e. quoted e.name) (take l.entry-index l.entries)
