-- A loop that gathers one image more at each turn.
use Rattle.std.proofs.Common.{◌≡◌, ℕ, ◌+◌, ◌<◌, List, [], ◌∷◌, ◌++◌, map, length, take, get_or, sym, ap, ap₂, ◌∙◌, append_assoc}
use Rattle.std.proofs.lemmas.List.{map-append}
use Rattle.gathering.proofs.Loops.{taken}

-- behind what was there before, one image more
pub after_more : {A B X Y : Type 0} (view : Y → B) (f : X → B) (s : A → X) (xs : List A) (i : ℕ) (x : A) (before : List B) (old new : List Y) (y : Y) → i < length xs → x ≡ get_or xs i x →
    map view old ≡ before ++ map f (map s (take i xs)) → new ≡ old ++ y ∷ [] → view y ≡ f (s x) → map view new ≡ before ++ map f (map s (take (i + 1) xs))
after_more view f s xs i x before old new y h e so_far pushed here =
    ap (map view) pushed
    ∙ map-append view old (y ∷ [])
    ∙ ap₂ (λ a b. a ++ b ∷ []) so_far here
    ∙ append_assoc before (map f (map s (take i xs))) (f (s x) ∷ [])
    ∙ ap (λ l. before ++ l)
    (sym (map-append f (map s (take i xs)) (s x ∷ [])) ∙ ap (map f) (sym (map-append s (take i xs) (x ∷ [])) ∙ ap (map s) (sym (taken xs i x h e))))
