-- Lists under numbers and under names: room for one list more, one value more, one list fewer.
use Rattle.std.proofs.Common.{◌≡◌, ℕ, suc, zero, ◌<◌, List, [], ◌∷◌, ◌++◌, map, length, get_or, refl, sym, ap, ◌∙◌, append-nil, arith, tests}
use Rattle.std.specs.Prelude.{Bool, true, false, Option, Some, None, nat_eq, bytes_eq, slice_get, slice_set, unwrap_or, if◌then◌else◌}
use Rattle.std.proofs.lemmas.Slice.Eq.{bytes_eq-Decides}
use Rattle.std.proofs.lemmas.List.{map-append}
use Rattle.process_core.specs.Instance.{only_if}

-- ---- a list under a number
-- an empty list behind the others
pub room_behind : {X : Type 0} (ls : List (List X)) (l : List X) (k : ℕ) → l ≡ [] → unwrap_or (slice_get (ls ++ l ∷ []) k) [] ≡ unwrap_or (slice_get ls k) []
room_behind [] l zero h = h
room_behind [] l (suc k) h = refl
room_behind (n ∷ ns) l zero h = refl
room_behind (n ∷ ns) l (suc k) h = room_behind ns l k h

pub first_apart : (k : ℕ) → nat_eq 0 (suc k) ≡ false
first_apart k = grind (arith, tests)

pub apart_first : (n : ℕ) → nat_eq (suc n) 0 ≡ false
apart_first n = grind (arith, tests)

pub next_same : (n k : ℕ) → nat_eq (suc n) (suc k) ≡ nat_eq n k
next_same n k = grind (arith, tests)

-- a value more in the list for a number
pub added_at : {X : Type 0} (ls : List (List X)) (n k : ℕ) (l m : List X) (v : X) → n < length ls → l ≡ get_or ls n l → m ≡ l ++ v ∷ [] →
    unwrap_or (slice_get (slice_set ls n m) k) [] ≡ unwrap_or (slice_get ls k) [] ++ only_if (nat_eq k n) v
added_at [] n k l m v h e p = absurd (omega (arith, h))
added_at (x ∷ xs) zero zero l m v h e p = p ∙ ap (λ z. z ++ v ∷ []) e
added_at (x ∷ xs) zero (suc k) l m v h e p = sym (append-nil _) ∙ ap (λ b. unwrap_or (slice_get xs k) [] ++ only_if b v) (sym (apart_first k))
added_at (x ∷ xs) (suc n) zero l m v h e p = sym (append-nil x) ∙ ap (λ b. x ++ only_if b v) (sym (first_apart n))
added_at (x ∷ xs) (suc n) (suc k) l m v h e p =
    added_at xs n k l m v (omega (arith, h)) e p ∙ ap (λ b. unwrap_or (slice_get xs k) [] ++ only_if b v) (sym (next_same k n))

-- ---- a list under a name
-- it is taken out
pub taken_out : {X : Type 0} (b : Bool) (old new : Option (List X)) → new ≡ (if b then None else old) → unwrap_or new [] ≡ (if b then [] else unwrap_or old [])
taken_out true old new e = ap (λ o. unwrap_or o []) e
taken_out false old new e = ap (λ o. unwrap_or o []) e

-- it is put back with a value more
pub put_back : {X : Type 0} (key x : List ℕ) (v : X) (old mid : List ℕ → List X) (list : List X) (before after : Option (List X)) → list ≡ old key ++ v ∷ [] →
    mid x ≡ (if bytes_eq key x then [] else old x) → unwrap_or before [] ≡ mid x → after ≡ (if bytes_eq key x then Some list else before) →
    unwrap_or after [] ≡ old x ++ only_if (bytes_eq key x) v
put_back {X = X} key x v old mid list before after is left same put = ap (λ o. unwrap_or o []) put ∙ by_test (bytes_eq key x) refl left
  where
    by_test : (b : Bool) → bytes_eq key x ≡ b → mid x ≡ (if b then [] else old x) → unwrap_or (if b then Some list else before) [] ≡ old x ++ only_if b v
    by_test true e l = is ∙ ap (λ y. old y ++ v ∷ []) ((bytes_eq-Decides key x).0 e)
    by_test false e l = same ∙ l ∙ sym (append-nil (old x))

-- ---- what a list with a value more, or none, is seen as
pub mapped_if : {X Y : Type 0} (f : X → Y) (b : Bool) (v : X) (old new : List X) → new ≡ old ++ only_if b v → map f new ≡ map f old ++ only_if b (f v)
mapped_if f b v old new e = ap (map f) e ∙ map-append f old (only_if b v) ∙ ap (λ l. map f old ++ l) (one b)
  where
    one : (b : Bool) → map f (only_if b v) ≡ only_if b (f v)
    one true = refl
    one false = refl
