use Rattle.std.proofs.Common.{◌≡◌, List, ℕ, drop}
use Rattle.std.specs.Option.{option_or}
use Rattle.name_rules.specs.Names.{under}
use Rattle.jani_instance.specs.Parts.{place_under}
use Rattle.jani_instance.proofs.parts.own_places.Given as goal

abbrev pub invariant-loop-j : goal.invariant-loop-j
invariant-loop-j l = (x : List ℕ) → option_or (under l.places x) (place_under x (drop l.j l.these)) ≡ place_under x l.these
