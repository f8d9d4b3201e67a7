-- Lists under names, and names that are noted: one value more, or one list fewer.
use Rattle.std.specs.Prelude.{◌≡◌, List, [], ◌++◌, Bool, true, false, ◌||◌, if◌then◌else◌}
use Rattle.std.specs.List.{list_any, filter}
use Rattle.std.proofs.Common.{refl, sym, ap, ap₂, ◌∙◌, append-nil, append_assoc}
use Rattle.basics.specs.Members.{filter_none}

-- ---- all that there are for a name are moved at the first
pub left_more : {X : Type 0} (b p c : Bool) (all old new : List X) → c ≡ (b || p) → old ≡ (if b then [] else all) → new ≡ (if p then [] else old) → new ≡ (if c then [] else all)
left_more b p c all old new e so_far next = next ∙ ap (λ l. if p then [] else l) so_far ∙ by_test b p ∙ ap (λ d. if d then [] else all) (sym e)
  where
    by_test : (b p : Bool) → (if p then [] else (if b then [] else all)) ≡ (if (b || p) then [] else all)
    by_test true true = refl
    by_test true false = refl
    by_test false true = refl
    by_test false false = refl

pub moved_more : {X Y : Type 0} (f : List X → List Y) → f [] ≡ [] → (b p c : Bool) (all left : List X) (first old new : List Y) → c ≡ (b || p) → left ≡ (if b then [] else all) →
    old ≡ first ++ (if b then f all else []) → new ≡ old ++ (if p then f left else []) → new ≡ first ++ (if c then f all else [])
moved_more f none b p c all left first old new e rest so_far next =
    next
    ∙ ap₂ (λ l k. l ++ (if p then f k else [])) so_far rest
    ∙ append_assoc first (if b then f all else []) (if p then f (if b then [] else all) else [])
    ∙ ap (λ l. first ++ l) (by_test b p ∙ ap (λ d. if d then f all else []) (sym e))
  where
    by_test : (b p : Bool) → (if b then f all else []) ++ (if p then f (if b then [] else all) else []) ≡ (if (b || p) then f all else [])
    by_test true true = ap (λ l. f all ++ l) none ∙ append-nil (f all)
    by_test true false = append-nil (f all)
    by_test false true = refl
    by_test false false = refl

pub moved_all : {X Y : Type 0} (f : List X → List Y) → f [] ≡ [] → (p : X → Bool) (xs : List X) → (if list_any p xs then f (filter p xs) else []) ≡ f (filter p xs)
moved_all f none p xs = by_test (list_any p xs) refl
  where
    by_test : (b : Bool) → list_any p xs ≡ b → (if b then f (filter p xs) else []) ≡ f (filter p xs)
    by_test true e = refl
    by_test false e = sym (ap f (filter_none p xs e) ∙ none)
