-- The lists that stand under names and under numbers.
use Rattle.std.specs.Prelude.{ℕ, List, [], bytes_eq, slice_get, unwrap_or}
use Rattle.std.specs.BTreeMap.{get_by}
use Rattle.std.specs.Cmp.Lexicographic.{slice_cmp}
use Rattle.std.specs.Ordering.{nat_cmp}
use Rattle.gathering.specs.declared.name_lists.NameLists.{NameLists}
use Rattle.gathering.specs.declared.number_lists.NumberLists.{NumberLists}

-- the list for a name
abbrev pub list_under : {X : Type 0} → NameLists X → List ℕ → List X
list_under t x = unwrap_or (get_by (λ k. slice_cmp nat_cmp x k.now) t.lists) []

-- the list for a number
abbrev pub list_for : {X : Type 0} → NumberLists X → ℕ → List X
list_for t k = unwrap_or (slice_get t.lists.items k) []
