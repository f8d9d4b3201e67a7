-- The numbers of variables in a list, by the elements that they belong to and by their names.
use Rattle.std.specs.Prelude.{◌≡◌, ℕ, List, Bool, ◌&&◌, Option, Some, None, nat_eq, bytes_eq, slice_get, if◌then◌else◌}
use Rattle.std.specs.Option.{option_or}
use Rattle.process_core.specs.Ready.{Name}
use Rattle.jani_meaning.specs.Elements.{Owned, place_of}
use Rattle.name_rules.specs.declared.map.NameMap.{NameMap}
use Rattle.name_rules.specs.Names.{under}
use Rattle.edge_tables.specs.declared.places.Places.{Places}

abbrev pub only_then : {X : Type 0} → Bool → X → Option X
only_then b x = if b then Some x else None

abbrev pub under_some : Option (NameMap ℕ) → Name → Option ℕ
under_some None x = None
under_some (Some m) x = under m x

-- the number of an element's own variable
abbrev pub own_in : Places → ℕ → Name → Option ℕ
own_in p k x = under_some (slice_get p.own.items k) x

-- the number of the variable that a name stands for in an element
unfoldable pub place_in : Places → ℕ → Name → Option ℕ
place_in p k x = option_or (own_in p k x) (under p.global x)

-- an element and a name are these
abbrev pub is_named_own : ℕ → Name → ℕ → Name → Bool
is_named_own element name k x = nat_eq k element && bytes_eq name x

-- they are those of these variables
abbrev pub ArePlaces : Places → List Owned → Type 0
ArePlaces p vars = (k : ℕ) (x : Name) → place_in p k x ≡ place_of vars k x
