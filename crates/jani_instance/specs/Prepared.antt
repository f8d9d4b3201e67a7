-- What is prepared of what is lent from the file: expressions that stand in a store, with names resolved to places, and are seen there
-- as they are in the file. (This project's own rule.)
use Rattle.std.specs.Prelude.{◌≡◌, ℕ, List, ◌++◌, slice_get, Option, Some, None}
use Rattle.std.specs.Option.{option_or}
use Rattle.expr_store.specs.Nodes.{IsGrown}
use Rattle.expr_store.specs.declared.node.ExprId.{ExprId}
use Rattle.expr_store.specs.declared.node.Node.{Node}
use Rattle.instance_start.specs.declared.data.Place.{Place}
use Rattle.jani_table.specs.declared.operator.JaniOp.{JaniOp}
use Rattle.name_rules.specs.Names.{under}
use Rattle.name_rules.specs.declared.map.NameMap.{NameMap}
use Rattle.op_trees.specs.Seen.{Seen, known_names}
use Rattle.process_core.specs.Ready.{Name}
use Rattle.jani_instance.specs.Shapes.{Lent}
use Rattle.jani_instance.specs.Views.{At, look_by, see_at}
use Rattle.jani_instance.specs.declared.data.NamedElement.{NamedElement}
use Rattle.jani_instance.specs.declared.prepare.Inside.{Inside}

-- ---- where names stand in an element: its own ones, and then the global ones
abbrev pub places_of : NameMap Place → NameMap Place → Name → Option Place
places_of own places x = option_or (under own x) (under places x)

abbrev pub places_in : Inside → Name → Option Place
places_in s = places_of s.own.now s.places.now

abbrev pub own_or : NameMap Place → Option NamedElement → Name → Option Place
own_or places None = places_of places places
own_or places (Some e) = places_of e.own places

-- in the element of this number; where there is none, the global ones alone
abbrev pub places_at : List NamedElement → NameMap Place → ℕ → Name → Option Place
places_at es places i = own_or places (slice_get es i)

-- ---- what is seen
-- names that stand at these places, where these values stand
abbrev pub placed_names : (Name → Option Place) → At → Name → Seen
placed_names places at = known_names (λ x. at (places x))

abbrev pub see_from : (Name → Option Place) → At → Lent → Seen
see_from places at = see_at (placed_names places at)

-- The nodes of a store have grown; and in each list of nodes that goes on from these, whatever stands at the places, what was prepared is
-- seen as what it was made of.
pub record IsPrepared {A : Type 0} (old new : List (Node JaniOp)) (made : (ExprId → Seen) → A) (source : At → A) : Type 0 where
  pub grown : IsGrown old new
  pub alike : (later : List (Node JaniOp)) (at : At) → made (look_by at (new ++ later)) ≡ source at
