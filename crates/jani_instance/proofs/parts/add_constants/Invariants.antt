use Rattle.std.proofs.Common.{◌≡◌, List, ℕ, map, take}
use Rattle.std.specs.Option.{option_or}
use Rattle.name_rules.specs.Names.{under}
use Rattle.jani_tree.specs.Syntax.{const_of}
use Rattle.jani_instance.specs.Constants.{constant_place}
use Rattle.jani_instance.proofs.parts.add_constants.Given as goal

abbrev pub invariant-loop-k : goal.invariant-loop-k
invariant-loop-k l = (x : List ℕ) → under l.places x ≡ option_or (under l.initial.places x) (constant_place (map const_of (take l.k l.constants)) x)
