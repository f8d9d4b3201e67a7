-- How the sums for each target grow branch by branch.
use Rattle.std.proofs.Common.{◌≡◌, ℕ, ◌+◌, List, [], ◌∷◌, ◌++◌, map, Bool, true, false, not, ◌||◌, cond, if◌then◌else◌, slice_set, get_or, refl, sym, ap, ap₂, ◌∙◌, arith, suc, append_assoc, append-nil, subst}
use Rattle.std.specs.List.{filter, list_any, position_or_len, All}
use Rattle.std.proofs.lemmas.List.{map-append}
use Rattle.std.proofs.lemmas.List.Elements.{filter-append, All-head, All-tail, All-filter, filter_passes}
use Rattle.std.proofs.lemmas.List.Folds.{list_any-append}
use Rattle.std.proofs.lemmas.Bool.{not-true, not_from_false}
use Rattle.basics.specs.Members.{filter_none, any-map}
use Rattle.basics.specs.Booleans.{same_test}
use Rattle.frac_core.specs.Fraction.{Fraction, nought, plus, is_wide}
use Rattle.frac_core.specs.Laws.{plus_assoc, plus_nought, nought_plus}
use Rattle.frac_core.specs.Sums.{total, total-append}
use Rattle.process_core.specs.Process.{Branch}
use Rattle.process_core.specs.Ready.{firsts}
use Rattle.process_core.specs.Bounds.{partial_sums, has_wide_sum}
use Rattle.process_core.specs.Equal.{IsEquality}
use Rattle.process_core.specs.Merged.{weights_to, targets_of, branches_to, summed_up, is_merging_wide}

-- ---- tests
or_kept : (a b c d : Bool) → (a ≡ true → b ≡ true) → c ≡ d → (cond b (a || c) c) ≡ (a || d)
or_kept true true c d h e = refl
or_kept true false c d h e = absurd (let t = h refl in cc)
or_kept false true c d h e = e
or_kept false false c d h e = e

any_cond : {X : Type 0} (p : X → Bool) (b : Bool) (x : X) (xs : List X) → list_any p (cond b (x ∷ xs) xs) ≡ cond b (p x || list_any p xs) (list_any p xs)
any_cond p true x xs = refl
any_cond p false x xs = refl

any_filter : {X : Type 0} (p q : X → Bool) → ((x : X) → p x ≡ true → q x ≡ true) → (xs : List X) → list_any p (filter q xs) ≡ list_any p xs
any_filter p q h [] = refl
any_filter p q h (x ∷ xs) = any_cond p (q x) x (filter q xs) ∙ or_kept (p x) (q x) _ _ (h x) (any_filter p q h xs)

pub place-map : {X Y : Type 0} (p : X → Bool) (q : Y → Bool) (f : X → Y) → ((x : X) → q (f x) ≡ p x) → (xs : List X) → position_or_len q (map f xs) ≡ position_or_len p xs
place-map p q f h [] = refl
place-map p q f h (x ∷ xs) = ap₂ (λ b n. cond (not b) (1 + n) 0) (h x) (place-map p q f h xs)

-- ---- partial sums
partial_sums-append : (a : Fraction) (xs ys : List Fraction) → partial_sums a (xs ++ ys) ≡ partial_sums a xs ++ partial_sums (plus a (total xs)) ys
partial_sums-append a [] ys = ap (λ b. partial_sums b ys) (sym (plus_nought a))
partial_sums-append a (x ∷ xs) ys =
    ap (λ l. plus a x ∷ l) (partial_sums-append (plus a x) xs ys ∙ ap (λ b. partial_sums (plus a x) xs ++ partial_sums b ys) (plus_assoc a x (total xs)))

wide-append : (xs ys : List Fraction) → has_wide_sum (xs ++ ys) ≡ (has_wide_sum xs || list_any is_wide (partial_sums (total xs) ys))
wide-append xs ys =
    ap (list_any is_wide) (partial_sums-append nought xs ys)
    ∙ list_any-append is_wide (partial_sums nought xs) (partial_sums (plus nought (total xs)) ys)
    ∙ ap (λ b. has_wide_sum xs || list_any is_wide (partial_sums b ys)) (nought_plus (total xs))

-- ---- lists without two that are the same
module _ {S : Type 0} (same : S → S → Bool) (eq : IsEquality same) where
  same_self : (x : S) → same x x ≡ true
  same_self x = (eq x x).1 refl

  same_turned : (x y : S) → same x y ≡ same y x
  same_turned x y = same_test (same x y) (same y x) (λ h. (eq y x).1 (sym ((eq x y).0 h))) (λ h. (eq x y).1 (sym ((eq y x).0 h)))

  other_than : (x y z : S) → same x y ≡ false → same x z ≡ true → not (same y z) ≡ true
  other_than x y z h k = not_from_false (same y z) (ap (same y) (sym ((eq x z).0 k)) ∙ same_turned y x ∙ h)

  abbrev pub Distinct : List S → Type 0
  Distinct [] = Unit {0}
  Distinct (x ∷ xs) = All (λ y. same x y ≡ false) xs × Distinct xs

  distinct_cond : (q : S → Bool) (b : Bool) (x : S) (xs : List S) → All (λ y. same x y ≡ false) xs → Distinct xs → Distinct (cond b (x ∷ xs) xs)
  distinct_cond q true x xs h k = (h, k)
  distinct_cond q false x xs h k = k

  distinct-filter : (q : S → Bool) (xs : List S) → Distinct xs → Distinct (filter q xs)
  distinct-filter q [] h = tt
  distinct-filter q (x ∷ xs) h = distinct_cond q (q x) x (filter q xs) (All-filter q (λ y. same x y ≡ false) xs h.0) (distinct-filter q xs h.1)

  all_not : (x : S) (xs : List S) → All (λ y. not (same x y) ≡ true) xs → All (λ y. same x y ≡ false) xs
  all_not x xs h k d l = not-true (same x (get_or xs k d)) (h k d l)

  pub firsts_distinct : (xs : List S) → Distinct (firsts same xs)
  firsts_distinct [] = tt
  firsts_distinct (x ∷ xs) = (
    all_not x (filter (λ y. not (same x y)) (firsts same xs)) (filter_passes (λ y. not (same x y)) (firsts same xs)),
    distinct-filter (λ y. not (same x y)) (firsts same xs) (firsts_distinct xs),
  )

  -- a test of the firsts is one of all
  any_or : (p : S → Bool) (x : S) (xs : List S) (b : Bool) → b ≡ p x → (b || list_any p (filter (λ y. not (same x y)) xs)) ≡ (b || list_any p xs)
  any_or p x xs true e = refl
  any_or p x xs false e = any_filter p (λ y. not (same x y)) (λ y h. not_from_false (same x y) (differs y h (same x y) refl)) xs
    where
      differs : (y : S) → p y ≡ true → (c : Bool) → c ≡ same x y → c ≡ false
      differs y h true k = absurd (let f = ap p ((eq x y).0 (sym k)) in let g = e ∙ f ∙ h in cc)
      differs y h false k = refl

  pub any_firsts : (p : S → Bool) (xs : List S) → list_any p (firsts same xs) ≡ list_any p xs
  any_firsts p [] = refl
  any_firsts p (x ∷ xs) = any_or p x (firsts same xs) (p x) refl ∙ ap (λ b. p x || b) (any_firsts p xs)

  -- one more at the end
  abbrev pub with_new : S → List S → List S
  with_new y xs = if list_any (same y) xs then xs else xs ++ y ∷ []

  filter_new : (x y : S) (xs : List S) (b : Bool) → same y x ≡ b →
      (x ∷ filter (λ z. not (same x z)) (with_new y xs)) ≡ with_new y (x ∷ filter (λ z. not (same x z)) xs)
  filter_new x y xs true h =
      ap (λ l. x ∷ l) (gone (list_any (same y) xs)) ∙ ap (λ b. if b then x ∷ F else (x ∷ F) ++ y ∷ []) (sym (ap (λ b. b || list_any (same y) F) h))
    where
      F : List S
      F = filter (λ z. not (same x z)) xs

      gone : (b : Bool) → filter (λ z. not (same x z)) (if b then xs else xs ++ y ∷ []) ≡ filter (λ z. not (same x z)) xs
      gone true = refl
      gone false =
          filter-append (λ z. not (same x z)) xs (y ∷ [])
          ∙ ap (λ b. filter (λ z. not (same x z)) xs ++ cond (not b) (y ∷ []) []) (same_turned x y ∙ h) ∙ append-nil (filter (λ z. not (same x z)) xs)
  filter_new x y xs false h =
      ap (λ l. x ∷ l) (kept (list_any (same y) xs))
      ∙ pulled (list_any (same y) xs)
      ∙ ap (λ b. if b then x ∷ F else (x ∷ F) ++ y ∷ []) (sym (ap₂ (λ a b. a || b) h (any_filter (same y) (λ z. not (same x z)) (λ z. other_than y x z h) xs)))
    where
      F : List S
      F = filter (λ z. not (same x z)) xs

      kept : (b : Bool) → filter (λ z. not (same x z)) (if b then xs else xs ++ y ∷ []) ≡ (if b then filter (λ z. not (same x z)) xs else filter (λ z. not (same x z)) xs ++ y ∷ [])
      kept true = refl
      kept false =
          filter-append (λ z. not (same x z)) xs (y ∷ [])
          ∙ ap (λ b. filter (λ z. not (same x z)) xs ++ cond (not b) (y ∷ []) []) (same_turned x y ∙ h)

      pulled : (b : Bool) → (x ∷ (if b then filter (λ z. not (same x z)) xs else filter (λ z. not (same x z)) xs ++ y ∷ []))
          ≡ (if b then x ∷ filter (λ z. not (same x z)) xs else (x ∷ filter (λ z. not (same x z)) xs) ++ y ∷ [])
      pulled true = refl
      pulled false = refl

  pub firsts_more : (xs : List S) (y : S) → firsts same (xs ++ y ∷ []) ≡ with_new y (firsts same xs)
  firsts_more [] y = refl
  firsts_more (x ∷ xs) y = ap (λ l. x ∷ filter (λ z. not (same x z)) l) (firsts_more xs y) ∙ filter_new x y (firsts same xs) (same y x) refl

  -- ---- the branch to a target, changed
  abbrev pub entry : Fraction → S → Branch Fraction S
  entry x t = record { probability = x; target = t; rewards = [] }

  same_entry : (x y : Fraction) (t u : S) → x ≡ y → t ≡ u → ◌≡◌ {A = Branch Fraction S} (record { probability = x; target = t; rewards = [] }) (record { probability = y; target = u; rewards = [] })
  same_entry x y t u p q = cc

  others_stay : (f g : S → Fraction) (t : S) → ((u : S) → same t u ≡ false → g u ≡ f u) → (us : List S) → All (λ u. same t u ≡ false) us → branches_to f us ≡ branches_to g us
  others_stay f g t h [] k = refl
  others_stay f g t h (u ∷ us) k =
      ap₂ (λ a b. a ∷ b) (same_entry (f u) (g u) u u (sym (h u (All-head (λ u. same t u ≡ false) u us k))) refl) (others_stay f g t h us (All-tail (λ u. same t u ≡ false) u us k))

  set-later : {X : Type 0} (x y : X) (xs : List X) (n : ℕ) → slice_set (x ∷ xs) (1 + n) y ≡ x ∷ slice_set xs n y
  set-later x y xs n = let e : 1 + n ≡ suc n = omega arith in ap (λ k. slice_set (x ∷ xs) k y) e

  changed_at : (f g : S → Fraction) (t : S) → ((u : S) → same t u ≡ false → g u ≡ f u) → (u : S) (us : List S) → All (λ y. same u y ≡ false) us →
      (list_any (same t) us ≡ true → slice_set (branches_to f us) (position_or_len (same t) us) (entry (g t) t) ≡ branches_to g us) →
      (b : Bool) → same t u ≡ b → (b || list_any (same t) us) ≡ true →
      slice_set (branches_to f (u ∷ us)) (cond (not b) (1 + position_or_len (same t) us) 0) (entry (g t) t) ≡ branches_to g (u ∷ us)
  changed_at f g t h u us d ih true e k =
      let same_place : t ≡ u = (eq t u).0 e in
      ap₂ (λ a b. a ∷ b) (same_entry (g t) (g u) t u (ap g same_place) same_place)
      (others_stay f g t h us (λ i x l. ap (λ v. same v (get_or us i x)) same_place ∙ d i x l))
  changed_at f g t h u us d ih false e k =
      set-later (entry (f u) u) (entry (g t) t) (branches_to f us) (position_or_len (same t) us)
      ∙ ap₂ (λ a b. a ∷ b) (same_entry (f u) (g u) u u (sym (h u e)) refl) (ih k)

  pub changed : (f g : S → Fraction) (t : S) → ((u : S) → same t u ≡ false → g u ≡ f u) → (us : List S) → Distinct us → list_any (same t) us ≡ true →
      slice_set (branches_to f us) (position_or_len (same t) us) (entry (g t) t) ≡ branches_to g us
  changed f g t h [] d k = cc
  changed f g t h (u ∷ us) d k = changed_at f g t h u us d.0 (changed f g t h us d.1) (same t u) refl k

  found_at : (f : S → Fraction) (t : S) (e : Branch Fraction S) (u : S) (us : List S) →
      (list_any (same t) us ≡ true → get_or (branches_to f us) (position_or_len (same t) us) e ≡ entry (f t) t) →
      (b : Bool) → same t u ≡ b → (b || list_any (same t) us) ≡ true →
      get_or (branches_to f (u ∷ us)) (cond (not b) (1 + position_or_len (same t) us) 0) e ≡ entry (f t) t
  found_at f t e u us ih true h k = let same_place : t ≡ u = (eq t u).0 h in same_entry (f u) (f t) u t (ap f (sym same_place)) (sym same_place)
  found_at f t e u us ih false h k =
      (let n : 1 + position_or_len (same t) us ≡ suc (position_or_len (same t) us) = omega arith in ap (λ i. get_or (branches_to f (u ∷ us)) i e) n) ∙ ih k

  pub found : (f : S → Fraction) (t : S) (e : Branch Fraction S) (us : List S) → list_any (same t) us ≡ true →
      get_or (branches_to f us) (position_or_len (same t) us) e ≡ entry (f t) t
  found f t e [] k = cc
  found f t e (u ∷ us) k = found_at f t e u us (found f t e us) (same t u) refl k

  -- ---- places
  place_new : {X : Type 0} (p : X → Bool) (xs : List X) (y : X) → p y ≡ true → position_or_len p (xs ++ y ∷ []) ≡ position_or_len p xs
  place_new p [] y h = ap (λ b. cond (not b) (1 + 0) 0) h
  place_new p (x ∷ xs) y h = ap (λ n. cond (not (p x)) (1 + n) 0) (place_new p xs y h)

  place_with_new : (t : S) (ts : List S) → position_or_len (same t) (with_new t ts) ≡ position_or_len (same t) ts
  place_with_new t ts = by_test (list_any (same t) ts)
    where
      by_test : (b : Bool) → position_or_len (same t) (if b then ts else ts ++ t ∷ []) ≡ position_or_len (same t) ts
      by_test true = refl
      by_test false = place_new (same t) ts t (same_self t)

  has_new : (t : S) (ts : List S) → list_any (same t) (with_new t ts) ≡ true
  has_new t ts = by_test (list_any (same t) ts) refl
    where
      by_test : (b : Bool) → b ≡ list_any (same t) ts → list_any (same t) (if b then ts else ts ++ t ∷ []) ≡ true
      by_test true e = sym e
      by_test false e = list_any-append (same t) ts (t ∷ []) ∙ ap₂ (λ a b. a || (b || false)) (sym e) (same_self t)

  -- ---- one branch more
  weight_if : (b : Bool) (c : Branch Fraction S) → map (λ b. b.probability) (cond b (c ∷ []) []) ≡ cond b (c.probability ∷ []) []
  weight_if true c = refl
  weight_if false c = refl

  weights_more : (u : S) (bs : List (Branch Fraction S)) (c : Branch Fraction S) →
      weights_to same u (bs ++ c ∷ []) ≡ weights_to same u bs ++ cond (same u c.target) (c.probability ∷ []) []
  weights_more u bs c =
      ap (map (λ b. b.probability)) (filter-append (λ b. same u b.target) bs (c ∷ []))
      ∙ map-append (λ b. b.probability) (filter (λ b. same u b.target) bs) (cond (same u c.target) (c ∷ []) [])
      ∙ ap (λ l. weights_to same u bs ++ l) (weight_if (same u c.target) c)

  weights-append : (u : S) (bs cs : List (Branch Fraction S)) → weights_to same u (bs ++ cs) ≡ weights_to same u bs ++ weights_to same u cs
  weights-append u bs cs =
      ap (map (λ b. b.probability)) (filter-append (λ b. same u b.target) bs cs)
      ∙ map-append (λ b. b.probability) (filter (λ b. same u b.target) bs) (filter (λ b. same u b.target) cs)

  total_here : (bs : List (Branch Fraction S)) (c : Branch Fraction S) → total (weights_to same c.target (bs ++ c ∷ [])) ≡ plus (total (weights_to same c.target bs)) c.probability
  total_here bs c =
      ap total (weights_more c.target bs c ∙ ap (λ b. weights_to same c.target bs ++ cond b (c.probability ∷ []) []) (same_self c.target))
      ∙ total-append (weights_to same c.target bs) (c.probability ∷ [])
      ∙ ap (plus (total (weights_to same c.target bs))) (plus_nought c.probability)

  weights_else : (u : S) (bs : List (Branch Fraction S)) (c : Branch Fraction S) → same c.target u ≡ false → weights_to same u (bs ++ c ∷ []) ≡ weights_to same u bs
  weights_else u bs c h =
      weights_more u bs c ∙ ap (λ b. weights_to same u bs ++ cond b (c.probability ∷ []) []) (same_turned u c.target ∙ h) ∙ append-nil (weights_to same u bs)

  -- a target that isn't there has no weights yet
  pub none_yet : (t : S) (bs : List (Branch Fraction S)) → list_any (same t) (targets_of same bs) ≡ false → weights_to same t bs ≡ []
  none_yet t bs h =
      ap (map (λ b. b.probability))
      (filter_none (λ b. same t b.target) bs (sym (any_firsts (same t) (map (λ b. b.target) bs) ∙ any-map (same t) (λ b. b.target) bs) ∙ h))

  pub targets_more : (bs : List (Branch Fraction S)) (c : Branch Fraction S) → targets_of same (bs ++ c ∷ []) ≡ with_new c.target (targets_of same bs)
  targets_more bs c = ap (firsts same) (map-append (λ b. b.target) bs (c ∷ [])) ∙ firsts_more (map (λ b. b.target) bs) c.target

  -- the sums so far, and a sum of nothing for a target that is new
  abbrev pub opened : S → List (Branch Fraction S) → List (Branch Fraction S)
  opened t bs = if list_any (same t) (targets_of same bs) then summed_up same bs else summed_up same bs ++ entry nought t ∷ []

  opened_is : (t : S) (bs : List (Branch Fraction S)) → opened t bs ≡ branches_to (λ u. total (weights_to same u bs)) (with_new t (targets_of same bs))
  opened_is t bs = by_test (list_any (same t) (targets_of same bs)) refl
    where
      by_test : (b : Bool) → b ≡ list_any (same t) (targets_of same bs) →
          (if b then summed_up same bs else summed_up same bs ++ entry nought t ∷ [])
          ≡ branches_to (λ u. total (weights_to same u bs)) (if b then targets_of same bs else targets_of same bs ++ t ∷ [])
      by_test true e = refl
      by_test false e =
          ap (λ x. summed_up same bs ++ entry x t ∷ []) (sym (ap total (none_yet t bs (sym e))))
          ∙ sym (map-append (λ u. entry (total (weights_to same u bs)) u) (targets_of same bs) (t ∷ []))

  pub opened_at : (t : S) (bs : List (Branch Fraction S)) (e : Branch Fraction S) →
      get_or (opened t bs) (position_or_len (same t) (targets_of same bs)) e ≡ entry (total (weights_to same t bs)) t
  opened_at t bs e =
      ap₂ (λ l n. get_or l n e) (opened_is t bs) (sym (place_with_new t (targets_of same bs)))
      ∙ found (λ u. total (weights_to same u bs)) t e (with_new t (targets_of same bs)) (has_new t (targets_of same bs))

  -- the sums after one more branch
  pub summed_more : (bs : List (Branch Fraction S)) (c : Branch Fraction S) →
      slice_set (opened c.target bs) (position_or_len (same c.target) (targets_of same bs)) (entry (plus (total (weights_to same c.target bs)) c.probability) c.target)
      ≡ summed_up same (bs ++ c ∷ [])
  summed_more bs c =
      let t = c.target in
      let ts = targets_of same bs in
      ap₂ (λ l n. slice_set l n (entry (plus (total (weights_to same t bs)) c.probability) t)) (opened_is t bs) (sym (place_with_new t ts))
      ∙ ap (λ x. slice_set (branches_to (λ u. total (weights_to same u bs)) (with_new t ts)) (position_or_len (same t) (with_new t ts)) (entry x t)) (sym (total_here bs c))
      ∙ changed (λ u. total (weights_to same u bs)) (λ u. total (weights_to same u (bs ++ c ∷ []))) t (λ u h. ap total (weights_else u bs c h)) (with_new t ts)
      (subst Distinct (firsts_more (map (λ b. b.target) bs) t) (firsts_distinct (map (λ b. b.target) bs ++ t ∷ []))) (has_new t ts)
      ∙ ap (branches_to (λ u. total (weights_to same u (bs ++ c ∷ [])))) (sym (targets_more bs c))

  -- ---- wide sums
  pub wide_here : (bs : List (Branch Fraction S)) (c : Branch Fraction S) →
      has_wide_sum (weights_to same c.target (bs ++ c ∷ [])) ≡ (has_wide_sum (weights_to same c.target bs) || (is_wide (plus (total (weights_to same c.target bs)) c.probability) || false))
  wide_here bs c =
      ap has_wide_sum (weights_more c.target bs c ∙ ap (λ b. weights_to same c.target bs ++ cond b (c.probability ∷ []) []) (same_self c.target))
      ∙ wide-append (weights_to same c.target bs) (c.probability ∷ [])

  -- no sum is wide after one more branch whose sum isn't
  narrow_by : (bs : List (Branch Fraction S)) (c : Branch Fraction S) → ((t : S) → has_wide_sum (weights_to same t bs) ≡ false) →
      is_wide (plus (total (weights_to same c.target bs)) c.probability) ≡ false → (t : S) (b : Bool) → b ≡ same c.target t → has_wide_sum (weights_to same t (bs ++ c ∷ [])) ≡ false
  narrow_by bs c h k t true e =
      let here : c.target ≡ t = (eq c.target t).0 (sym e) in
      ap (λ u. has_wide_sum (weights_to same u (bs ++ c ∷ []))) (sym here) ∙ wide_here bs c ∙ ap₂ (λ a b. a || (b || false)) (h c.target) k
  narrow_by bs c h k t false e = ap has_wide_sum (weights_else t bs c (sym e)) ∙ h t

  pub narrow_more : (bs : List (Branch Fraction S)) (c : Branch Fraction S) → ((t : S) → has_wide_sum (weights_to same t bs) ≡ false) →
      is_wide (plus (total (weights_to same c.target bs)) c.probability) ≡ false → (t : S) → has_wide_sum (weights_to same t (bs ++ c ∷ [])) ≡ false
  narrow_more bs c h k t = narrow_by bs c h k t (same c.target t) refl

  or_true : (a b : Bool) → a ≡ true → (a || b) ≡ true
  or_true true b h = refl
  or_true false b h = absurd cc

  -- a wide sum on the way to a target stays one, and so the merging is wide
  pub merging_wide : (bs cs : List (Branch Fraction S)) (c : Branch Fraction S) → ((t : S) → has_wide_sum (weights_to same t bs) ≡ false) →
      is_wide (plus (total (weights_to same c.target bs)) c.probability) ≡ true → is_merging_wide same ((bs ++ c ∷ []) ++ cs) ≡ true
  merging_wide bs cs c h k =
      let t = c.target in
      let all = (bs ++ c ∷ []) ++ cs in
      let wide = λ (u : S). has_wide_sum (weights_to same u all) in
      let at_t : wide t ≡ true =
      ap has_wide_sum (weights-append t (bs ++ c ∷ []) cs) ∙ wide-append (weights_to same t (bs ++ c ∷ [])) (weights_to same t cs)
      ∙ or_true _ _ (wide_here bs c ∙ ap₂ (λ a b. a || (b || false)) (h t) k) in
      any_firsts wide (map (λ b. b.target) all)
      ∙ any-map wide (λ b. b.target) all
      ∙ ap (list_any (λ b. wide b.target)) (append_assoc bs (c ∷ []) cs)
      ∙ list_any-append (λ b. wide b.target) bs (c ∷ cs)
      ∙ in_middle (list_any (λ b. wide b.target) bs) (wide t) (list_any (λ b. wide b.target) cs) at_t
    where
      in_middle : (a b d : Bool) → b ≡ true → (a || (b || d)) ≡ true
      in_middle true b d e = refl
      in_middle false b d e = ap (λ x. x || d) e

  never : {X : Type 0} (p : X → Bool) → ((x : X) → p x ≡ false) → (xs : List X) → list_any p xs ≡ false
  never p h [] = refl
  never p h (x ∷ xs) = ap₂ (λ a b. a || b) (h x) (never p h xs)

  pub merging_narrow : (bs : List (Branch Fraction S)) → ((t : S) → has_wide_sum (weights_to same t bs) ≡ false) → is_merging_wide same bs ≡ false
  merging_narrow bs h = never (λ t. has_wide_sum (weights_to same t bs)) h (targets_of same bs)
