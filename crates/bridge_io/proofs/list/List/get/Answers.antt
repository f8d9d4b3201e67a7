use Rattle.std.proofs.Common.{◌≡◌, ◌<◌, ◌≤◌, ◌∙◌, ℕ, List, Option, Some, None, Bor, length, get_or, ap, sym}
use Rattle.std.specs.Prelude.{slice_get, option_copied, IfSome}
use Rattle.std.specs.Option.{MatchOption}
use Rattle.std.specs.List.{HoldsAt}
use Rattle.std.proofs.lemmas.Option.{slice_get-get_or, slice_get_past}
use Rattle.bridge_io.proofs.list.List.get.Goals as goal

copied_there : {X : Type 0} (found : Option (Bor X)) (seen xs : List X) (i : ℕ) → seen ≡ xs → IfSome found (λ x. x.now ≡ get_or seen i x.now) → MatchOption found (length seen ≤ i) (λ x. (i < length seen) × HoldsAt (λ y. x.now ≡ y) seen i) → option_copied found ≡ slice_get xs i
copied_there (Some x) seen xs i same there within = rw (← same) (ap Some there ∙ sym (slice_get-get_or seen i x.now within.0))
copied_there None seen xs i same there past = rw (← same) (sym (slice_get_past seen i past))

pub returns : goal.returns
returns g c = copied_there c.get.result _ _ _ (c.deref.ensures.value ∙ c.self.view_is) c.get.ensures.lookup.1 c.get.ensures.lookup.3
