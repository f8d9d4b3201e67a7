-- Lists each of whose members comes once, one member more.
use Rattle.std.proofs.Common.{◌≡◌, ℕ, ◌+◌, ◌<◌, List, [], ◌∷◌, ◌++◌, map, length, get_or, take, refl, sym, ap, ap₂, ◌∙◌}
use Rattle.std.specs.Prelude.{Bool, true, false, ◌||◌, not, bytes_eq, if◌then◌else◌}
use Rattle.std.specs.List.{filter, list_any}
use Rattle.std.proofs.lemmas.List.{map-append}
use Rattle.std.proofs.lemmas.List.Elements.{filter-append}
use Rattle.std.proofs.lemmas.List.Folds.{list_any-append}
use Rattle.process_core.specs.Ready.{Name, firsts}
use Rattle.process_core.specs.Instance.{only_if}
use Rattle.gathering.proofs.Loops.{taken}

one_kept : {A : Type 0} (b c : Bool) (p : A → Bool) (x : A) → p x ≡ not b → filter p (if c then [] else x ∷ []) ≡ (if b || c then [] else x ∷ [])
one_kept true true p x h = refl
one_kept false true p x h = refl
one_kept true false p x h = rw h refl
one_kept false false p x h = rw h refl

pub firsts_more : {A : Type 0} (same : A → A → Bool) (xs : List A) (x : A) → firsts same (xs ++ x ∷ []) ≡ firsts same xs ++ (if list_any (λ y. same y x) xs then [] else x ∷ [])
firsts_more same [] x = refl
firsts_more {A = A} same (y ∷ ys) x =
    ap (λ (l : List A). y ∷ filter (λ z. not (same y z)) l) (firsts_more same ys x)
    ∙ ap (λ (l : List A). y ∷ l)
    (filter-append (λ z. not (same y z)) (firsts same ys) (if list_any (λ z. same z x) ys then [] else x ∷ [])
    ∙ ap (λ (l : List A). filter (λ z. not (same y z)) (firsts same ys) ++ l) (one_kept (same y x) (list_any (λ z. same z x) ys) (λ z. not (same y z)) x refl))

-- one more of those that are each once
pub once_more : {A B : Type 0} (same : B → B → Bool) (s : A → B) (xs : List A) (i : ℕ) (x : A) (w : Bool) (old new : List A) → i < length xs → x ≡ get_or xs i x →
    map s old ≡ firsts same (map s (take i xs)) → w ≡ list_any (λ y. same y (s x)) (map s (take i xs)) → new ≡ old ++ only_if (not w) x →
    map s new ≡ firsts same (map s (take (i + 1) xs))
once_more {B = B} same s xs i x w old new h e so_far test pushed =
    ap (map s) pushed
    ∙ map-append s old (only_if (not w) x)
    ∙ ap₂ (λ (l m : List B). l ++ m) so_far (one w ∙ ap (λ (b : Bool). if b then [] else s x ∷ []) test)
    ∙ sym (ap (λ l. firsts same (map s l)) (taken xs i x h e) ∙ ap (firsts same) (map-append s (take i xs) (x ∷ [])) ∙ firsts_more same (map s (take i xs)) (s x))
  where
    one : (b : Bool) → map s (only_if (not b) x) ≡ (if b then [] else s x ∷ [])
    one true = refl
    one false = refl

-- a name is seen where it was before, or is the one that came
pub seen_more : {A : Type 0} (s : A → Name) (xs : List A) (i : ℕ) (x : A) (z : Name) (new old : Bool) → i < length xs → x ≡ get_or xs i x →
    old ≡ list_any (λ y. bytes_eq y z) (map s (take i xs)) → new ≡ (bytes_eq (s x) z || old) → new ≡ list_any (λ y. bytes_eq y z) (map s (take (i + 1) xs))
seen_more s xs i x z new old h e so_far next =
    next
    ∙ ap (λ o. bytes_eq (s x) z || o) so_far
    ∙ last (map s (take i xs)) (s x)
    ∙ ap (list_any (λ y. bytes_eq y z)) (sym (map-append s (take i xs) (x ∷ [])) ∙ ap (map s) (sym (taken xs i x h e)))
  where
    last : (us : List Name) (u : Name) → (bytes_eq u z || list_any (λ y. bytes_eq y z) us) ≡ list_any (λ y. bytes_eq y z) (us ++ u ∷ [])
    last us u = two (bytes_eq u z) (list_any (λ y. bytes_eq y z) us) ∙ sym (list_any-append (λ y. bytes_eq y z) us (u ∷ []))
      where
        two : (b c : Bool) → (b || c) ≡ (c || (b || false))
        two true true = refl
        two true false = refl
        two false true = refl
        two false false = refl
