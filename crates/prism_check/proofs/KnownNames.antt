-- Lists of faults that are gone through until one has some.
use Rattle.std.specs.Prelude.{◌≡◌, ℕ, ◌+◌, ◌<◌, List, [], ◌∷◌, ◌++◌, map, length, get_or, take, Bool, true, false, Option, None, Result, Ok, Err, IfOk, is_some}
use Rattle.std.specs.List.{flat_map}
use Rattle.std.proofs.Common.{refl, sym, ap, ◌∙◌}
use Rattle.std.proofs.lemmas.List.{map-append, take_more}
use Rattle.std.proofs.lemmas.List.Concat.{flat_map-append}
use Rattle.basics.specs.Lists.{append_both}
use Rattle.basics.specs.Options.{none_of}
use Rattle.bridge_io.specs.declared.reason.Fault.{Fault}
use Rattle.name_rules.specs.Least.{soonest}
use Rattle.name_rules.proofs.Soonest.{soonest_none}

pub none_told : (fs : List Fault) (best : Option Fault) → best ≡ soonest None fs → is_some best ≡ false → fs ≡ []
none_told fs best e none = soonest_none fs (sym e ∙ none_of best none)

-- one member more that has none
pub none_more : {A B : Type 0} (view : A → B) (f : B → List Fault) (xs : List A) (i : ℕ) (x : A) (best : Option Fault) → i < length xs → x ≡ get_or xs i x →
    flat_map f (map view (take i xs)) ≡ [] → best ≡ soonest None (f (view x)) → is_some best ≡ false → flat_map f (map view (take (i + 1) xs)) ≡ []
none_more view f xs i x best h is so_far e none =
    ap (λ l. flat_map f (map view l)) (take_more xs i x h ∙ ap (λ y. take i xs ++ y ∷ []) (sym is))
    ∙ ap (flat_map f) (map-append view (take i xs) (x ∷ []))
    ∙ flat_map-append f (map view (take i xs)) (view x ∷ [])
    ∙ append_both (flat_map f (map view (take i xs))) (f (view x) ++ []) so_far (append_both (f (view x)) [] (none_told (f (view x)) best e none) refl)

pub if_known : {E P Q : Type 0} → (P → Q) → (r : Result Bool E) → IfOk r (λ b. b ≡ true → P) → IfOk r (λ b. b ≡ true → Q)
if_known h (Ok b) k = λ e. h (k e)
if_known h (Err e) k = tt
