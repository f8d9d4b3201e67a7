-- Where names stand, one more of a list each.
use Rattle.std.specs.Prelude.{◌≡◌, ℕ, zero, suc, ◌+◌, ◌<◌, ◌≤◌, List, [], ◌∷◌, ◌++◌, map, length, take, get_or, Bool, true, false, cond, Option, Some, None, if◌then◌else◌}
use Rattle.std.specs.List.{position}
use Rattle.std.specs.Option.{option_map, option_or}
use Rattle.std.proofs.Common.{refl, sym, ap, ap₂, ◌∙◌, arith}
use Rattle.std.proofs.lemmas.List.{map-append, length-map}
use Rattle.basics.specs.Members.{position_cons}
use Rattle.gathering.proofs.Loops.{taken}

both_later : (a : Option ℕ) (b : Bool) (n : ℕ) → option_map suc (option_or a (if b then Some n else None)) ≡ option_or (option_map suc a) (if b then Some (suc n) else None)
both_later None true n = refl
both_later None false n = refl
both_later (Some k) b n = refl

pub position_snoc : {A : Type 0} (p : A → Bool) (xs : List A) (x : A) → position p (xs ++ x ∷ []) ≡ option_or (position p xs) (if p x then Some (length xs) else None)
position_snoc p [] x = position_cons p x []
position_snoc p (y ∷ ys) x =
    position_cons p y (ys ++ x ∷ [])
    ∙ by_test (p y) (position_snoc p ys x)
    ∙ ap (λ o. option_or o (if p x then Some (suc (length ys)) else None)) (sym (position_cons p y ys))
  where
    by_test : (b : Bool) → position p (ys ++ x ∷ []) ≡ option_or (position p ys) (if p x then Some (length ys) else None) →
        cond b (Some 0) (option_map suc (position p (ys ++ x ∷ []))) ≡ option_or (cond b (Some 0) (option_map suc (position p ys))) (if p x then Some (suc (length ys)) else None)
    by_test true ih = refl
    by_test false ih = ap (option_map suc) ih ∙ both_later (position p ys) (p x) (length ys)

length_taken : {A : Type 0} (xs : List A) (i : ℕ) → i ≤ length xs → length (take i xs) ≡ i
length_taken xs zero h = refl
length_taken [] (suc i) h = absurd (omega (arith, h))
length_taken (x ∷ xs) (suc i) h = ap suc (length_taken xs i (let d : i ≤ length xs = omega (arith, h) in d))

pub position_more : {A B : Type 0} (p : B → Bool) (s : A → B) (xs : List A) (i : ℕ) (x : A) → i < length xs → x ≡ get_or xs i x →
    position p (map s (take (i + 1) xs)) ≡ option_or (position p (map s (take i xs))) (if p (s x) then Some i else None)
position_more p s xs i x h e =
    ap (λ l. position p (map s l)) (taken xs i x h e)
    ∙ ap (position p) (map-append s (take i xs) (x ∷ []))
    ∙ position_snoc p (map s (take i xs)) (s x)
    ∙ ap (λ n. option_or (position p (map s (take i xs))) (if p (s x) then Some n else None)) (length-map (take i xs) s ∙ length_taken xs i (let d : i ≤ length xs = omega (arith, h) in d))

placed_first : {P : Type 0} (F : ℕ → P) (a : Option ℕ) (b : Bool) (n : ℕ) → option_map F (option_or a (if b then Some n else None)) ≡ option_or (option_map F a) (if b then Some (F n) else None)
placed_first F None true n = refl
placed_first F None false n = refl
placed_first F (Some k) b n = refl

-- a name that is put, if none stands there
pub placed_more : {A B P : Type 0} (F : ℕ → P) (p : B → Bool) (s : A → B) (xs : List A) (i : ℕ) (x : A) (old new : Option P) (b : Bool) → i < length xs → x ≡ get_or xs i x →
    old ≡ option_map F (position p (map s (take i xs))) → new ≡ option_or old (if b then Some (F i) else None) → p (s x) ≡ b → new ≡ option_map F (position p (map s (take (i + 1) xs)))
placed_more F p s xs i x old new b h e so_far put is =
    put
    ∙ ap₂ (λ o c. option_or o (if c then Some (F i) else None)) so_far (sym is)
    ∙ sym (placed_first F (position p (map s (take i xs))) (p (s x)) i)
    ∙ ap (option_map F) (sym (position_more p s xs i x h e))

-- one that doesn't stand for it
pub placed_none : {A B P : Type 0} (F : ℕ → P) (p : B → Bool) (s : A → B) (xs : List A) (i : ℕ) (x : A) (old : Option P) → i < length xs → x ≡ get_or xs i x →
    old ≡ option_map F (position p (map s (take i xs))) → p (s x) ≡ false → old ≡ option_map F (position p (map s (take (i + 1) xs)))
placed_none {P = P} F p s xs i x old h e so_far is = placed_more F p s xs i x old old false h e so_far (kept old) is
  where
    kept : (o : Option P) → o ≡ option_or o None
    kept None = refl
    kept (Some k) = refl

pub option_or-assoc : {P : Type 0} (a b c : Option P) → option_or (option_or a b) c ≡ option_or a (option_or b c)
option_or-assoc None b c = refl
option_or-assoc (Some x) b c = refl
