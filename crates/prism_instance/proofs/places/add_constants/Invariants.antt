use Rattle.std.proofs.Common.{◌≡◌, List, ℕ, map, drop}
use Rattle.std.specs.Option.{option_or}
use Rattle.name_rules.specs.Names.{under}
use Rattle.prism_tree.specs.Syntax.{const_of}
use Rattle.prism_instance.specs.Places.{constant_place}
use Rattle.prism_instance.proofs.places.add_constants.Given as goal

abbrev pub invariant-loop-i : goal.invariant-loop-i
invariant-loop-i l = (x : List ℕ) → option_or (under l.places x) (constant_place l.i (map const_of (drop l.i l.constants)) x) ≡ option_or (under l.initial.places x) (constant_place 0 (map const_of l.constants) x)
