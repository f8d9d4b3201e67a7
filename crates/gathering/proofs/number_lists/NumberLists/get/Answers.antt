use Rattle.std.proofs.Common.{◌≡◌, ◌<◌, ◌≤◌, ◌∙◌, ℕ, List, [], length, get_or, unwrap_or, ap, sym}
use Rattle.std.specs.Prelude.{slice_get}
use Rattle.std.proofs.lemmas.Option.{slice_get-get_or, slice_get_past}
use Rattle.gathering.proofs.number_lists.NumberLists.get.Goals as goal

list_there : {X : Type 0} (seen lists : List (List X)) (number : ℕ) (list : List X) → seen ≡ lists → number < length seen → list ≡ get_or seen number list → list ≡ unwrap_or (slice_get lists number) []
list_there seen lists number list same within there = rw (← same) (there ∙ sym (ap (λ o. unwrap_or o []) (slice_get-get_or seen number list within)))

none_there : {X : Type 0} (seen lists : List (List X)) (number : ℕ) → seen ≡ lists → length seen ≤ number → [] ≡ unwrap_or (slice_get lists number) []
none_there seen lists number same past = rw (← same) (sym (ap (λ o. unwrap_or o []) (slice_get_past seen number past)))

pub returns-in-None : goal.returns-in-None
returns-in-None g c = none_there _ _ _ c.deref.ensures.value c.in-None.ensures.lookup.3

pub returns-in-Some : goal.returns-in-Some
returns-in-Some g c = c.as_slice.ensures ∙ list_there _ _ _ _ c.deref.ensures.value c.in-Some.ensures.lookup.3.0 c.in-Some.ensures.lookup.1
