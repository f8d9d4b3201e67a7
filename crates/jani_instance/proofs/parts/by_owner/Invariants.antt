use Rattle.std.proofs.Common.{◌≡◌, ◌+◌, List, ℕ, map, take}
use Rattle.std.specs.List.{position}
use Rattle.std.specs.Option.{option_map}
use Rattle.gathering.specs.Lists.{list_for}
use Rattle.instance_start.specs.declared.data.Place.TheVariants.{Variable}
use Rattle.jani_instance.specs.Parts.{owned_at, place_under}
use Rattle.jani_meaning.specs.Elements.{is_own}
use Rattle.jani_instance.proofs.parts.by_owner.Given as goal

abbrev pub invariant-loop-k : goal.invariant-loop-k
invariant-loop-k l = (i : ℕ) (x : List ℕ) → place_under x (list_for l.all i) ≡ option_map (λ n. Variable (l.first + n)) (position (is_own i x) (map owned_at (take l.k l.vars)))
