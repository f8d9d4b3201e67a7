use Rattle.std.proofs.Common.{◌≡◌, ◌+◌, List, ℕ, map, take}
use Rattle.std.specs.List.{position}
use Rattle.std.specs.Option.{option_map}
use Rattle.name_rules.specs.Names.{under}
use Rattle.instance_start.specs.declared.data.Place.TheVariants.{Variable}
use Rattle.jani_instance.specs.Parts.{owned_at}
use Rattle.jani_meaning.specs.Elements.{is_global}
use Rattle.jani_instance.proofs.parts.global_places.Given as goal

abbrev pub invariant-loop-k : goal.invariant-loop-k
invariant-loop-k l = (x : List ℕ) → under l.places x ≡ option_map (λ n. Variable (l.first + n)) (position (is_global x) (map owned_at (take l.k l.vars)))
