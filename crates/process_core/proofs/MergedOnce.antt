-- What merging keeps and what it gives.
use Rattle.std.proofs.Common.{◌≡◌, ◌≤◌, List, [], ◌∷◌, map, Bool, true, false, not, ◌||◌, cond, length, get_or, refl, sym, ap, ◌∙◌, arith}
use Rattle.std.specs.List.{filter, list_any, All}
use Rattle.std.proofs.lemmas.List.{length-map}
use Rattle.std.proofs.lemmas.List.Elements.{All-nil, All-cons, All-head, All-tail, All-filter, filter_passes}
use Rattle.std.proofs.lemmas.Bool.{not-true}
use Rattle.frac_core.specs.Fraction.{Fraction, nought, plus, same_number}
use Rattle.frac_core.specs.Laws.{plus_nought, nought_plus, same_number_is}
use Rattle.frac_core.specs.Sums.{total}
use Rattle.process_core.specs.Process.{Branch}
use Rattle.process_core.specs.Ready.{Values}
use Rattle.process_core.specs.Equal.{IsEquality}
use Rattle.process_core.specs.Merged.{weights_to, targets_of, branches_to, summed_up, merged}
use Rattle.process_core.specs.Laws.{IsMerged}
use Rattle.process_core.proofs.Targets.{Distinct, firsts_distinct, none_yet}

module _ {S : Type 0} (same : S → S → Bool) (eq : IsEquality same) where
  -- ---- one branch to each of several targets
  weights_at : (f : S → Fraction) (t u : S) (us : List S) (b : Bool) → same t u ≡ b →
      weights_to same t (branches_to f (u ∷ us)) ≡ cond b (f u ∷ weights_to same t (branches_to f us)) (weights_to same t (branches_to f us))
  weights_at f t u us true e = ap (λ c. map (λ b. b.probability) (cond c (record { probability = f u; target = u; rewards = [] } ∷ filter (λ b. same t b.target) (branches_to f us)) (filter (λ b. same t b.target) (branches_to f us)))) e
  weights_at f t u us false e = ap (λ c. map (λ b. b.probability) (cond c (record { probability = f u; target = u; rewards = [] } ∷ filter (λ b. same t b.target) (branches_to f us)) (filter (λ b. same t b.target) (branches_to f us)))) e

  no_weights : (f : S → Fraction) (t : S) (us : List S) → All (λ v. same t v ≡ false) us → weights_to same t (branches_to f us) ≡ []
  no_weights f t [] h = refl
  no_weights f t (u ∷ us) h =
      weights_at f t u us false (All-head (λ v. same t v ≡ false) u us h) ∙ no_weights f t us (All-tail (λ v. same t v ≡ false) u us h)

  found_in : (f : S → Fraction) (t u : S) (us : List S) → All (λ y. same u y ≡ false) us →
      (total (weights_to same t (branches_to f us)) ≡ cond (list_any (same t) us) (f t) nought) →
      (b : Bool) → same t u ≡ b → total (weights_to same t (branches_to f (u ∷ us))) ≡ cond (b || list_any (same t) us) (f t) nought
  found_in f t u us d ih true e =
      let here = (eq t u).0 e in
      ap total (weights_at f t u us true e)
      ∙ ap (λ l. plus (f u) (total l)) (no_weights f t us (λ k x l. ap (λ v. same v (get_or us k x)) here ∙ d k x l))
      ∙ plus_nought (f u) ∙ ap f (sym here)
  found_in f t u us d ih false e = ap total (weights_at f t u us false e) ∙ ih

  total_found : (f : S → Fraction) (t : S) (us : List S) → Distinct same eq us → total (weights_to same t (branches_to f us)) ≡ cond (list_any (same t) us) (f t) nought
  total_found f t [] d = refl
  total_found f t (u ∷ us) d = found_in f t u us d.0 (total_found f t us d.1) (same t u) refl

  once_in : (f : S → Fraction) (t u : S) (us : List S) → All (λ y. same u y ≡ false) us → length (weights_to same t (branches_to f us)) ≤ 1 →
      (b : Bool) → same t u ≡ b → length (weights_to same t (branches_to f (u ∷ us))) ≤ 1
  once_in f t u us d ih true e =
      let here = (eq t u).0 e in
      let a = ap length (weights_at f t u us true e) in
      let b = ap length (no_weights f t us (λ k x l. ap (λ v. same v (get_or us k x)) here ∙ d k x l)) in
      omega arith
  once_in f t u us d ih false e = let a = ap length (weights_at f t u us false e) in omega arith

  once_found : (f : S → Fraction) (t : S) (us : List S) → Distinct same eq us → length (weights_to same t (branches_to f us)) ≤ 1
  once_found f t [] d = omega arith
  once_found f t (u ∷ us) d = once_in f t u us d.0 (once_found f t us d.1) (same t u) refl

  -- ---- without those of 0
  kept_total : (t : S) (b : Branch Fraction S) (bs cs : List (Branch Fraction S)) → total (weights_to same t cs) ≡ total (weights_to same t bs) →
      (k z : Bool) → z ≡ same_number b.probability nought → k ≡ same t b.target →
      total (map (λ b. b.probability) (filter (λ b. same t b.target) (cond (not z) (b ∷ cs) cs))) ≡ total (map (λ b. b.probability) (cond k (b ∷ filter (λ b. same t b.target) bs) (filter (λ b. same t b.target) bs)))
  kept_total t b bs cs ih k false e f =
      ap (λ c. total (map (λ b. b.probability) (cond c (b ∷ filter (λ b. same t b.target) cs) (filter (λ b. same t b.target) cs)))) (sym f) ∙ by_test k
    where
      by_test : (k : Bool) →
          total (map (λ b. b.probability) (cond k (b ∷ filter (λ b. same t b.target) cs) (filter (λ b. same t b.target) cs)))
          ≡ total (map (λ b. b.probability) (cond k (b ∷ filter (λ b. same t b.target) bs) (filter (λ b. same t b.target) bs)))
      by_test true = ap (plus b.probability) ih
      by_test false = ih
  kept_total t b bs cs ih true true e f = ih ∙ sym (ap (λ x. plus x (total (weights_to same t bs))) ((same_number_is b.probability nought).0 (sym e)) ∙ nought_plus (total (weights_to same t bs)))
  kept_total t b bs cs ih false true e f = ih

  total_kept : (t : S) (bs : List (Branch Fraction S)) → total (weights_to same t (filter (λ b. not (same_number b.probability nought)) bs)) ≡ total (weights_to same t bs)
  total_kept t [] = refl
  total_kept t (b ∷ bs) = kept_total t b bs (filter (λ b. not (same_number b.probability nought)) bs) (total_kept t bs) (same t b.target) (same_number b.probability nought) refl refl

  longer : {X : Type 0} (x : X) (ys zs : List X) (b : Bool) → length ys ≤ length zs → length (cond b (x ∷ ys) ys) ≤ length (cond b (x ∷ zs) zs)
  longer x ys zs true h = omega arith
  longer x ys zs false h = h

  one_longer : {X : Type 0} (x : X) (ys zs : List X) (b : Bool) → length ys ≤ length zs → length ys ≤ length (cond b (x ∷ zs) zs)
  one_longer x ys zs true h = omega arith
  one_longer x ys zs false h = h

  fewer_at : {X : Type 0} (p : X → Bool) (x : X) (ys zs : List X) → length (filter p ys) ≤ length (filter p zs) → (a : Bool) → length (filter p (cond a (x ∷ ys) ys)) ≤ length (filter p (x ∷ zs))
  fewer_at p x ys zs h true = longer x (filter p ys) (filter p zs) (p x) h
  fewer_at p x ys zs h false = one_longer x (filter p ys) (filter p zs) (p x) h

  fewer : {X : Type 0} (p q : X → Bool) (xs : List X) → length (filter p (filter q xs)) ≤ length (filter p xs)
  fewer p q [] = omega arith
  fewer p q (x ∷ xs) = fewer_at p x (filter q xs) xs (fewer p q xs) (q x)

  pub merged_sums : (bs : List (Branch Fraction S)) (t : S) → total (weights_to same t (merged same bs)) ≡ total (weights_to same t bs)
  merged_sums bs t = total_kept t (summed_up same bs) ∙ total_found (λ u. total (weights_to same u bs)) t (targets_of same bs) (firsts_distinct same eq (map (λ b. b.target) bs)) ∙ by_test (list_any (same t) (targets_of same bs)) refl
    where
      by_test : (b : Bool) → b ≡ list_any (same t) (targets_of same bs) → cond b (total (weights_to same t bs)) nought ≡ total (weights_to same t bs)
      by_test true e = refl
      by_test false e = sym (ap total (none_yet same eq t bs (sym e)))

  pub merged_once : (bs : List (Branch Fraction S)) (t : S) → length (weights_to same t (merged same bs)) ≤ 1
  merged_once bs t =
      let nonzero = λ (b : Branch Fraction S). not (same_number b.probability nought) in
      let a = fewer (λ (b : Branch Fraction S). same t b.target) nonzero (summed_up same bs) in
      let b = once_found (λ u. total (weights_to same u bs)) t (targets_of same bs) (firsts_distinct same eq (map (λ b. b.target) bs)) in
      let c = length-map (filter (λ b. same t b.target) (merged same bs)) (λ (b : Branch Fraction S). b.probability) in
      let d = length-map (filter (λ b. same t b.target) (summed_up same bs)) (λ (b : Branch Fraction S). b.probability) in
      omega arith

all_bare : (f : Values → Fraction) (ts : List Values) → All (λ (b : Branch Fraction Values). b.rewards ≡ []) (branches_to f ts)
all_bare f [] = All-nil (λ b. b.rewards ≡ [])
all_bare f (t ∷ ts) = All-cons (λ b. b.rewards ≡ []) (record { probability = f t; target = t; rewards = [] }) (branches_to f ts) refl (all_bare f ts)

pub merged_each : (same : Values → Values → Bool) (bs : List (Branch Fraction Values)) → All IsMerged (merged same bs)
merged_each same bs =
    let nonzero = λ (b : Branch Fraction Values). not (same_number b.probability nought) in
    let passes = filter_passes nonzero (summed_up same bs) in
    let bare = All-filter nonzero (λ b. b.rewards ≡ []) (summed_up same bs) (all_bare (λ t. total (weights_to same t bs)) (targets_of same bs)) in
    λ k d l. (not-true (same_number (get_or (merged same bs) k d).probability nought) (passes k d l), bare k d l)
