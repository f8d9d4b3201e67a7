-- Transient variables as they are kept, by what locations give to them (jani-model specification, version 1: "Transient
-- variables", "Automata").
use Rattle.std.specs.Prelude.{◌≡◌, ℕ, List, [], map, Bool, true, Option, Some, None, nat_eq, slice_get, if◌then◌else◌}
use Rattle.std.specs.List.{flat_map}
use Rattle.op_trees.specs.Names.{is_called}
use Rattle.op_trees.specs.Seen.{Seen}
use Rattle.gathering.specs.Lists.{list_under}
use Rattle.gathering.specs.declared.name_lists.NameLists.{NameLists}
use Rattle.process_core.specs.Ready.{Name}
use Rattle.process_core.specs.Instance.{numbered, only_if}
use Rattle.state_choices.specs.Trimmed.{computed}
use Rattle.jani_tree.specs.Syntax.{Automaton, Expression, Write}
use Rattle.jani_meaning.specs.Elements.{Owned}
use Rattle.jani_meaning.specs.Scene.{start_of}
use Rattle.jani_instance.specs.Shapes.{Giver, Lent, Transient, giver_at}
use Rattle.jani_instance.specs.declared.data.Giver as code_giver
use Rattle.jani_instance.specs.declared.transients.Gifts.{Gifts}

-- what a location of an element gives to a name
abbrev pub gift_by : Name → ℕ → ℕ → Write → List (Giver Expression)
gift_by x i n w = only_if (is_called x w.target) (record { element = i; location = n; value = w.value })

-- what all of them do
abbrev pub gifts_by : Name → ℕ → Automaton → List (Giver Expression)
gifts_by x i a = numbered (λ n l. flat_map (gift_by x i n) l.values) 0 a.locations

-- those of the element with this number
abbrev pub gifts_at : ℕ → Name → List Automaton → List (Giver Expression)
gifts_at k x as_ = numbered (λ i a. if nat_eq i k then gifts_by x i a else []) 0 as_

-- a variable without owner takes values of each element, another one those of its owner
abbrev pub takes_from : ℕ → Option ℕ → Bool
takes_from i None = true
takes_from i (Some k) = nat_eq i k

abbrev pub giver_by : Option ℕ → Name → ℕ → Automaton → List (Giver Expression)
giver_by owner x i a = if takes_from i owner then gifts_by x i a else []

abbrev pub transient_by : List Automaton → (Name → Seen) → Owned → Transient Expression
transient_by as_ names o = record {
  name = o.var.name.name;
  start = computed (start_of names o.var.start);
  givers = numbered (giver_by o.owner o.var.name.name) 0 as_;
}

-- ---- the lists of the program
abbrev pub own_or_none : Option (NameLists (code_giver.Giver Lent)) → Name → List (code_giver.Giver Lent)
own_or_none None x = []
own_or_none (Some t) x = list_under t x

abbrev pub own_list : List (NameLists (code_giver.Giver Lent)) → ℕ → Name → List (code_giver.Giver Lent)
own_list ts k x = own_or_none (slice_get ts k) x

abbrev pub given_to : Gifts → Option ℕ → Name → List (code_giver.Giver Lent)
given_to g None x = list_under g.all x
given_to g (Some k) x = own_list g.own.items k x

-- what all locations give, and those of each element
pub record AreGifts (as_ : List Automaton) (g : Gifts) : Type 0 where
  pub all : (x : Name) → map giver_at (list_under g.all x) ≡ numbered (gifts_by x) 0 as_
  pub own : (k : ℕ) (x : Name) → map giver_at (own_list g.own.items k x) ≡ gifts_at k x as_
