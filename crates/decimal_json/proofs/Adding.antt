-- An item that is added to the array of the innermost bracket, in its place.
use Rattle.std.proofs.Common.{◌≡◌, ℕ, zero, suc, ◌+◌, List, [], ◌∷◌, ◌++◌, length, sym, refl, ap, subst, ◌∙◌, arith, get_or, set}
use Rattle.std.specs.Prelude.{Result, Ok, Err, Option, Some, None, IfOk, IfNone}
use Rattle.decimal_json.specs.declared.tree.Json.{Json}
use Rattle.decimal_json.specs.declared.brackets.Frame.{Frame}
use Rattle.decimal_json.specs.Kept.{AddsTo, AddsItem}

-- what stands before the last of a list, with that last and with another in its place
last_of : (fs : List Frame) (n : ℕ) (f g : Frame) → n + 1 ≡ length fs → f ≡ get_or fs n f → (outer : List Frame) × (fs ≡ outer ++ f ∷ []) × (set fs n g ≡ outer ++ g ∷ [])
last_of [] n f g l e = absurd (omega (arith, l))
last_of (a ∷ []) zero f g l e = ([], ap (λ (x : Frame). x ∷ []) (sym e), refl)
last_of (a ∷ []) (suc n) f g l e = absurd (omega (arith, l))
last_of (a ∷ (b ∷ fs)) zero f g l e = absurd (omega (arith, l))
last_of (a ∷ (b ∷ fs)) (suc n) f g l e = let r = last_of (b ∷ fs) n f g (omega (arith, l)) e in (a ∷ r.0, ap (λ (u : List Frame). a ∷ u) r.1, ap (λ (u : List Frame). a ∷ u) r.2)

adds_item : (us fs gs : List Frame) (n : ℕ) (x : Json) (f g : Frame) → us ≡ fs → n + 1 ≡ length fs → f ≡ get_or fs n f → gs ≡ set fs n g → AddsTo f x g → AddsItem us x gs
adds_item us fs gs n x f g o l e q a =
    let r = last_of fs n f g l e in
    record {
      outer = r.0;
      start = a.start;
      items = a.items;
      before = o ∙ r.1 ∙ ap (λ (y : Frame). r.0 ++ y ∷ []) a.before;
      behind = q ∙ r.2 ∙ ap (λ (y : Frame). r.0 ++ y ∷ []) a.behind;
    }

-- the item is given back
pub none_added : {E : Type 0} (P : Type 0) (r : Result (Option Json) E) (x : Json) → r ≡ Ok (Some x) → IfOk r (λ left. IfNone left P)
none_added {E = E} P r x e = let F : Result (Option Json) E → Type 0 = λ k. IfOk k (λ left. IfNone left P) in subst F (sym e) tt

-- what is added to the last bracket is added to the brackets
pub item_added : {E : Type 0} (us fs gs : List Frame) (n : ℕ) (x : Json) (f g : Frame) (r o : Result (Option Json) E) → o ≡ r → us ≡ fs → n + 1 ≡ length fs → f ≡ get_or fs n f → gs ≡ set fs n g → IfOk r (λ left. IfNone left (AddsTo f x g)) → IfOk o (λ left. IfNone left (AddsItem us x gs))
item_added {E = E} us fs gs n x f g r o i j l e q h = let F : Result (Option Json) E → Type 0 = λ k. IfOk k (λ left. IfNone left (AddsItem us x gs)) in subst F (sym i) (go r h)
  where
    go : (r : Result (Option Json) E) → IfOk r (λ left. IfNone left (AddsTo f x g)) → IfOk r (λ left. IfNone left (AddsItem us x gs))
    go (Ok None) h = adds_item us fs gs n x f g j l e q h
    go (Ok (Some y)) h = tt
    go (Err y) h = tt
