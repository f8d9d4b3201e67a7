-- Where a model begins, as it is kept: a table of the initial locations of each element, and the condition on initial states
-- (jani-model specification, version 1: "Automata", "Models").
use Rattle.std.specs.Prelude.{ℕ, zero, suc, ◌+◌, List, [], ◌∷◌, map, Bool, true, false, ◌&&◌, Option, Some, get_or, if◌then◌else◌}
use Rattle.std.specs.Coded.{Coded-set}
use Rattle.op_trees.specs.Seen.{Seen, known}
use Rattle.op_trees.specs.declared.tree.Value.TheVariants as V
use Rattle.process_core.specs.Ready.{Name, Values}
use Rattle.state_choices.specs.Codes.{seen_code}
use Rattle.jani_tree.specs.Syntax.{Automaton, Expression}
use Rattle.jani_meaning.specs.Elements.{has_several_starts, location_number}
use Rattle.jani_meaning.specs.Moment.{restriction_seen}
use Rattle.jani_instance.specs.Views.{location_at}
use Rattle.jani_instance.specs.declared.data.InitialLocations.{InitialLocations}

-- a table says of each number whether it was entered, of none past its end; with a number more
unfoldable pub entered : ℕ → List Bool → List Bool
entered zero [] = true ∷ []
entered zero (b ∷ bs) = true ∷ bs
entered (suc n) [] = false ∷ entered n []
entered (suc n) (b ∷ bs) = b ∷ entered n bs

-- with these numbers more
unfoldable pub table_with : List ℕ → List Bool → List Bool
table_with [] bs = bs
table_with (n ∷ ns) bs = table_with ns (entered n bs)

-- that of the numbers of the initial locations of an element that has several; a single one is the first value of its column
abbrev pub initial_table : Automaton → List Bool
initial_table a = if has_several_starts a then table_with (map (λ n. location_number a n.name) a.initial) [] else []

abbrev pub table_in : InitialLocations → List Bool
table_in l = l.table.items

-- a location was entered, where any was
abbrev pub may_begin : ℕ → List Bool → Bool
may_begin n [] = true
may_begin n (b ∷ bs) = get_or (b ∷ bs) n false

-- each element is in such a location
abbrev pub all_begin : (ℕ → ℕ) → ℕ → List (List Bool) → Bool
all_begin at i [] = true
all_begin at i (bs ∷ rest) = may_begin (at i) bs && all_begin at (i + 1) rest

-- false where an element isn't in such a location, else what the restriction comes out as
abbrev pub condition_from : Option Expression → List (List Bool) → (Name → Seen) → Values → Seen
condition_from restrict tables names s =
    if all_begin (location_at s) 0 tables then restriction_seen names restrict else known (Some (V.Truth false))

-- it can be equal in one way only
pub one_seen : IsSet Seen
one_seen = Coded-set seen_code
