use Rattle.std.proofs.Common.{◌≡◌, ℕ, List, map, take}
use Rattle.std.specs.List.{position}
use Rattle.op_trees.specs.Names.{is_called}
use Rattle.name_rules.specs.Names.{under}
use Rattle.name_table.specs.JaniParts.{owned_of}
use Rattle.prop_to_prism.proofs.names.label_numbers.Given as goal

abbrev pub invariant-loop-i : goal.invariant-loop-i
invariant-loop-i l = (x : List ℕ) → under l.all x ≡ position (λ o. is_called x o.var.name) (map owned_of (take l.i l.labels))
