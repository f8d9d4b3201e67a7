use Rattle.std.proofs.Common.{◌≡◌, ℕ, List, map, take}
use Rattle.std.specs.List.{position}
use Rattle.jani_tree.specs.Syntax.{const_of}
use Rattle.op_trees.specs.Names.{is_called}
use Rattle.name_rules.specs.Names.{under}
use Rattle.module_parts.proofs.naming.constant_numbers.Given as goal

abbrev pub invariant-loop-i : goal.invariant-loop-i
invariant-loop-i l = (x : List ℕ) → under l.all x ≡ position (λ k. is_called x k.name) (map const_of (take l.i l.constants))
