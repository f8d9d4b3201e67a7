use Rattle.std.proofs.Common.{◌≡◌, List, ℕ, map, take}
use Rattle.std.specs.List.{position}
use Rattle.name_rules.specs.Names.{under}
use Rattle.jani_tree.specs.Syntax.{location_of}
use Rattle.op_trees.specs.Names.{is_called}
use Rattle.jani_instance.proofs.acting.location_numbers.Given as goal

abbrev pub invariant-loop-k : goal.invariant-loop-k
invariant-loop-k l = (x : List ℕ) → under l.numbers x ≡ position (λ p. is_called x p.name) (map location_of (take l.k l.these))
