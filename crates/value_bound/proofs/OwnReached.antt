-- The greatest probabilities of the process itself are at most those over its rows.
use Rattle.std.proofs.Common.{◌≡◌, ◌≢◌, ◌⊎◌, ℕ, zero, suc, ◌<◌, List, [], ◌∷◌, ◌++◌, map, ◌||◌, Bool, true, false, cond, if◌then◌else◌, length, count_by, refl, sym, ap, ap₂, ◌∙◌, subst, inl, inr, arith}
use Rattle.std.specs.List.{All, list_any}
use Rattle.std.specs.Cmp.Lexicographic.{pointwise, pointwise_decides}
use Rattle.std.proofs.lemmas.List.Elements.{All-head, All-tail, All-nil, All-cons, All-map}
use Rattle.std.proofs.lemmas.List.Sums.{sum_by-cons}
use Rattle.basics.specs.Booleans.{first_false, second_false}
use Rattle.frac_core.specs.Fraction.{Fraction, nought, unit, times, same_number}
use Rattle.frac_core.specs.Laws.{same_number_is}
use Rattle.frac_core.specs.Order.{AtMost, AtMost_refl, AtMost_trans}
use Rattle.frac_core.specs.Sums.{total}
use Rattle.process_core.specs.Process.{Outcome, Good, Bad, Choice}
use Rattle.process_core.specs.Distribution.{IsProper, IsDistribution}
use Rattle.process_core.specs.Often.{often_count}
use Rattle.process_core.specs.Ready.{Values, Name}
use Rattle.process_core.specs.Equal.{equal_states, equal_states_is}
use Rattle.process_core.specs.Laws.{MergingLaws}
use Rattle.process_core.specs.Steps.{Process, IsProcess}
use Rattle.process_core.specs.declared.data.State.{State}
use Rattle.row_check.specs.declared.data.Row.{Row}
use Rattle.row_check.specs.declared.data.ReadRows.{ReadRows}
use Rattle.row_check.specs.Index.{stands_in, values_at}
use Rattle.row_check.specs.Merging.{GoodChoice, MergedChoice, merged_choice, if_good, good_choices, reaches_unlisted, choice_of_rows, branch_of_row, TargetsListed}
use Rattle.row_check.specs.Rows.{AreRows}
use Rattle.row_check.proofs.Spread.{IsSupported, rows_supported, choice_supported, often_not}
use Rattle.value_bound.specs.Reaching.{expected, choices_of, greatest, best}
use Rattle.value_bound.specs.Bounds.{is_target}
use Rattle.value_bound.specs.Own.{value_in, best_in, is_labelled}
use Rattle.value_bound.specs.Laws.{OwnAtMost}
use Rattle.value_bound.proofs.Reached.{in_choices, expected_AtMost, greatest_AtMost}
use Rattle.value_bound.proofs.Strategic.{larger_left, larger_right, best_not_negative, greatest_not_negative}
use Rattle.value_bound.proofs.OwnSums.{sum_to, AreDistinct, IsListed, told_by_sums, rows_value, listed_all}

-- ---- members of lists
abbrev pub IsAmong : {X : Type 0} → X → List X → Type 0
IsAmong x [] = ⊥
IsAmong x (y ∷ ys) = (x ≡ y) ⊎ IsAmong x ys

all_among : {X : Type 0} (P : X → Type 0) (xs : List X) → ((x : X) → IsAmong x xs → P x) → All P xs
all_among P [] h = All-nil P
all_among P (x ∷ xs) h = All-cons P x xs (h x (inl refl)) (all_among P xs (λ y k. h y (inr k)))

among_all : {X : Type 0} (P : X → Type 0) (x : X) (xs : List X) → IsAmong x xs → All P xs → P x
among_all P x [] h k = absurd h
among_all P x (y ∷ ys) (inl e) k = subst P (sym e) (All-head P y ys k)
among_all P x (y ∷ ys) (inr h) k = among_all P x ys h (All-tail P y ys k)

abbrev as_count : Bool → ℕ
as_count b = cond b 1 0

counted : {X : Type 0} (p : X → Bool) (x : X) (xs : List X) → IsAmong x xs → p x ≡ true → 0 < count_by p xs
counted p x [] h e = absurd h
counted p x (y ∷ ys) (inl q) e = let c = sum_by-cons (λ z. cond (p z) 1 0) y ys in let o : as_count (p y) ≡ 1 = ap as_count (ap p (sym q) ∙ e) in omega (arith, c, o)
counted p x (y ∷ ys) (inr h) e = let c = sum_by-cons (λ z. cond (p z) 1 0) y ys in let r = counted p x ys h e in omega (arith, c, r)

found : {X Y : Type 0} (p : Y → Bool) (f : X → Y) (xs : List X) → 0 < count_by p (map f xs) → (x : X) × IsAmong x xs × (p (f x) ≡ true)
found p f [] h = absurd (omega (arith, h))
found {X} p f (x ∷ xs) h = by_test (found p f xs) (p (f x)) refl
  where
    by_test : (0 < count_by p (map f xs) → (y : X) × IsAmong y xs × (p (f y) ≡ true)) → (b : Bool) → b ≡ p (f x) → (y : X) × IsAmong y (x ∷ xs) × (p (f y) ≡ true)
    by_test ih true e = (x, inl refl, sym e)
    by_test ih false e =
        let c = sum_by-cons (λ z. cond (p z) 1 0) (f x) (map f xs) in
        let o : as_count (p (f x)) ≡ 0 = ap as_count (sym e) in
        let r = ih (omega (arith, c, o, h)) in
        (r.0, inr r.1, r.2)

map_among : {X Y : Type 0} (f : X → Y) (x : X) (xs : List X) → IsAmong x xs → IsAmong (f x) (map f xs)
map_among f x [] h = h
map_among f x (y ∷ ys) (inl e) = inl (ap f e)
map_among f x (y ∷ ys) (inr h) = inr (map_among f x ys h)

unmapped : {X Y : Type 0} (f : X → Y) (y : Y) (xs : List X) → IsAmong y (map f xs) → (x : X) × IsAmong x xs × (y ≡ f x)
unmapped f y [] h = absurd h
unmapped f y (x ∷ xs) (inl e) = (x, inl refl, e)
unmapped f y (x ∷ xs) (inr h) = let r = unmapped f y xs h in (r.0, inr r.1, r.2)

any_not : {X : Type 0} (p : X → Bool) (x : X) (xs : List X) → IsAmong x xs → list_any p xs ≡ false → p x ≡ false
any_not p x [] h k = absurd h
any_not p x (y ∷ ys) (inl e) k = ap p e ∙ first_false (p y) (list_any p ys) k
any_not p x (y ∷ ys) (inr h) k = any_not p x ys h (second_false (p y) (list_any p ys) k)

-- a choice is at most the greatest
in_greatest : {X : Type 0} (f : X → Fraction) (x : X) (xs : List X) → IsAmong x xs → AtMost (f x) (greatest (map f xs))
in_greatest f x [] h = absurd h
in_greatest f x (y ∷ []) (inl e) = subst (λ z. AtMost (f z) (f y)) (sym e) (AtMost_refl (f y))
in_greatest f x (y ∷ []) (inr h) = absurd h
in_greatest f x (y ∷ z ∷ ys) (inl e) = subst (λ w. AtMost (f w) (greatest (map f (y ∷ z ∷ ys)))) (sym e) (larger_left (f y) (greatest (map f (z ∷ ys))))
in_greatest f x (y ∷ z ∷ ys) (inr h) = AtMost_trans _ _ _ (in_greatest f x (z ∷ ys) h) (larger_right (f y) (greatest (map f (z ∷ ys))))

-- ---- the good choices of a state
pub good_proper : (is_state : Values → Bool) (cs : List (Choice Name Fraction Values)) → All (λ c. IsProper is_state c.outcome) cs → All (λ (c : GoodChoice). IsDistribution is_state c.branches) (good_choices cs)
good_proper is_state [] h = All-nil (λ (c : GoodChoice). IsDistribution is_state c.branches)
good_proper is_state (c ∷ cs) h = by_outcome (good_proper is_state cs (All-tail (λ (c : Choice Name Fraction Values). IsProper is_state c.outcome) c cs h)) c.outcome (All-head (λ (c : Choice Name Fraction Values). IsProper is_state c.outcome) c cs h)
  where
    by_outcome : All (λ (c : GoodChoice). IsDistribution is_state c.branches) (good_choices cs) → (o : Outcome Fraction Values) → IsProper is_state o → All (λ (c : GoodChoice). IsDistribution is_state c.branches) (if_good c.label o ++ good_choices cs)
    by_outcome rest (Good bs) k = All-cons (λ (c : GoodChoice). IsDistribution is_state c.branches) (record { label = c.label; branches = bs }) (good_choices cs) k rest
    by_outcome rest (Bad k) p = rest

-- ---- listed states
stands_at : (ss : List State) (i : ℕ) → i < length ss → stands_in (values_at ss i) ss ≡ true
stands_at [] i l = absurd (omega (arith, l))
stands_at (s ∷ ss) zero l = ap (λ b. b || stands_in s.values ss) ((equal_states_is s.values s.values).1 refl)
stands_at (s ∷ ss) (suc i) l = ap (λ b. equal_states (values_at ss i) s.values || b) (stands_at ss i (omega (arith, l))) ∙ or_true (equal_states (values_at ss i) s.values)
  where
    or_true : (b : Bool) → (b || true) ≡ true
    or_true true = refl
    or_true false = refl

place_of : (t : Values) (ss : List State) → stands_in t ss ≡ true → (i : ℕ) × (i < length ss) × (values_at ss i ≡ t)
place_of t [] h = absurd cc
place_of t (s ∷ ss) h = by_test (place_of t ss) (equal_states t s.values) refl h
  where
    by_test : (stands_in t ss ≡ true → (i : ℕ) × (i < length ss) × (values_at ss i ≡ t)) → (b : Bool) → b ≡ equal_states t s.values → (b || stands_in t ss) ≡ true → (i : ℕ) × (i < length (s ∷ ss)) × (values_at (s ∷ ss) i ≡ t)
    by_test ih true e k = (0, omega arith, sym ((equal_states_is t s.values).0 (sym e)))
    by_test ih false e k = let r = ih k in (suc r.0, (let l = r.1 in omega (arith, l)), r.2)

distinct_from : (g : Values → Fraction) (ss : List State) → ((i j : ℕ) → i < j → j < length ss → values_at ss i ≢ values_at ss j) → AreDistinct g ss
distinct_from g [] h = tt
distinct_from g (s ∷ ss) h = (apart (stands_in s.values ss) refl, distinct_from g ss (λ i j a b. h (suc i) (suc j) (omega (arith, a)) (omega (arith, b))))
  where
    apart : (b : Bool) → b ≡ stands_in s.values ss → stands_in s.values ss ≡ false
    apart false e = sym e
    apart true e = let r = place_of s.values ss (sym e) in absurd (h 0 (suc r.0) (omega arith) (let l = r.1 in omega (arith, l)) (sym r.2))

sums_same : (u v : Values → Fraction) (ss : List State) → pointwise same_number (map (λ s. u s.values) ss) (map (λ s. v s.values) ss) ≡ true → map (λ s. u s.values) ss ≡ map (λ s. v s.values) ss
sums_same u v ss h = (pointwise_decides same_number_is (map (λ s. u s.values) ss) (map (λ s. v s.values) ss)).0 h

pointwise_self : (xs : List Fraction) → pointwise same_number xs xs ≡ true
pointwise_self xs = (pointwise_decides same_number_is xs xs).1 refl

over_same : (g u v : Values → Fraction) (ss : List State) → map (λ s. u s.values) ss ≡ map (λ s. v s.values) ss → map (λ s. times (u s.values) (g s.values)) ss ≡ map (λ s. times (v s.values) (g s.values)) ss
over_same g u v [] e = refl
over_same g u v (s ∷ ss) e = let here : u s.values ≡ v s.values = cc in let rest = over_same g u v ss cc in ap₂ (λ x xs. times x (g s.values) ∷ xs) here rest

module _ (laws : MergingLaws) (p : Process) (r : ReadRows) (label : ℕ) (proper : IsProcess p) (own : AreRows p r) (weights : All (λ (x : Row). AtMost nought x.weight) r.rows) where
  module _ (k : ℕ) (l : k < length r.states) where
    abbrev model : List GoodChoice
    model = good_choices (p.choices (values_at r.states k))

    file_supported : (rss : List (List Row)) → All (TargetsListed (length r.states)) rss → All (IsSupported r.states) (map merged_choice (map (choice_of_rows r.states) rss))
    file_supported [] h = All-nil (IsSupported r.states)
    file_supported (run ∷ rss) h =
        All-cons (IsSupported r.states) (merged_choice (choice_of_rows r.states run)) (map merged_choice (map (choice_of_rows r.states) rss))
        (rows_supported r.states run (All-head (TargetsListed (length r.states)) run rss h)) (file_supported rss (All-tail (TargetsListed (length r.states)) run rss h))

    runs_listed : All (TargetsListed (length r.states)) (choices_of k r.rows)
    runs_listed = in_choices (λ (x : Row). x.target < length r.states) k r.rows own.targets

    none_unlisted : list_any (reaches_unlisted r.states) model ≡ false
    none_unlisted = by_test (list_any (reaches_unlisted r.states) model) refl
      where
        by_test : (b : Bool) → b ≡ list_any (reaches_unlisted r.states) model → b ≡ false
        by_test false e = refl
        by_test true e = absurd (often_not laws r.states model _ (sym e) (file_supported (choices_of k r.rows) runs_listed) (own.choices k l).same)

    -- a choice of the process has a choice of the file with the same sums
    partner : (c : GoodChoice) → IsAmong c model →
        (run : List Row) × IsAmong run (choices_of k r.rows) × (map (λ s. sum_to c.branches s.values) r.states ≡ map (λ s. sum_to (map (branch_of_row r.states) run) s.values) r.states)
    partner c h =
        let test = λ (m : MergedChoice). pointwise same_number (map (λ s. sum_to c.branches s.values) r.states) (map (λ s. m.sum_to s.values) r.states) in
        let some = counted test (merged_choice c) (map merged_choice model) (map_among merged_choice c model h) (pointwise_self (map (λ s. sum_to c.branches s.values) r.states)) in
        let f = found test merged_choice (map (choice_of_rows r.states) (choices_of k r.rows)) (subst (λ n. 0 < n) (often_count (own.choices k l).same test) some) in
        let q = unmapped (choice_of_rows r.states) f.0 (choices_of k r.rows) f.1 in (
          q.0,
          q.1,
          sums_same (sum_to c.branches) (sum_to (map (branch_of_row r.states) q.0)) r.states (subst (λ (d : GoodChoice). test (merged_choice d) ≡ true) q.2 f.2),
        )

    module _ (g : Values → Fraction) where
      rows_listed : (run : List Row) → TargetsListed (length r.states) run → All (IsListed g r.states) (map (branch_of_row r.states) run)
      rows_listed run h = All-map (IsListed g r.states) (branch_of_row r.states) run (λ i d m. inl (stands_at r.states _ (h i d m)))

      -- and comes to the same
      same_value : (c : GoodChoice) (h : IsAmong c model) → value_in g c.branches ≡ expected (λ j. g (values_at r.states j)) (partner c h).0
      same_value c h =
          let q = partner c h in
          let apart = distinct_from g r.states own.distinct in
          let weigh = (among_all (λ (d : GoodChoice). IsDistribution p.is_state d.branches) c model h (good_proper p.is_state (p.choices (values_at r.states k)) (proper.proper (values_at r.states k) (own.states k l)))).not_negative in
          let supported = choice_supported laws r.states c (any_not (reaches_unlisted r.states) c model h none_unlisted) in
          told_by_sums g r.states apart c.branches (listed_all g r.states c.branches weigh supported.nothing)
          ∙ ap total (over_same g (sum_to c.branches) (sum_to (map (branch_of_row r.states) q.0)) r.states q.2)
          ∙ sym (told_by_sums g r.states apart (map (branch_of_row r.states) q.0) (rows_listed q.0 (among_all (TargetsListed (length r.states)) q.0 (choices_of k r.rows) q.1 runs_listed)))
          ∙ rows_value g r.states q.0

    -- one step further
    step_most : (f : Values → Fraction) (b : ℕ → Fraction) → ((j : ℕ) → j < length r.states → AtMost (f (values_at r.states j)) (b j)) → AtMost nought (greatest (map (expected b) (choices_of k r.rows))) →
        AtMost (greatest (map (λ c. value_in f c.branches) model)) (greatest (map (expected b) (choices_of k r.rows)))
    step_most f b ih z =
        greatest_AtMost (map (λ c. value_in f c.branches) model) (greatest (map (expected b) (choices_of k r.rows))) z
        (All-map (λ x. AtMost x (greatest (map (expected b) (choices_of k r.rows)))) (λ (c : GoodChoice). value_in f c.branches) model
        (all_among (λ (c : GoodChoice). AtMost (value_in f c.branches) (greatest (map (expected b) (choices_of k r.rows)))) model one))
      where
        one : (c : GoodChoice) → IsAmong c model → AtMost (value_in f c.branches) (greatest (map (expected b) (choices_of k r.rows)))
        one c h =
            let q = partner c h in
            let listed = among_all (TargetsListed (length r.states)) q.0 (choices_of k r.rows) q.1 runs_listed in
            let weigh = among_all (All (λ (x : Row). AtMost nought x.weight)) q.0 (choices_of k r.rows) q.1 (in_choices (λ (x : Row). AtMost nought x.weight) k r.rows weights) in
            subst (λ x. AtMost x (greatest (map (expected b) (choices_of k r.rows)))) (sym (same_value f c h))
            (AtMost_trans _ _ _ (expected_AtMost (λ j. f (values_at r.states j)) b q.0 weigh (λ i d m. ih _ (listed i d m))) (in_greatest (expected b) q.0 (choices_of k r.rows) q.1))

  own_most : (n k : ℕ) → k < length r.states → AtMost (best_in p (is_labelled p label) n (values_at r.states k)) (best (is_target p label r.states) r.rows n k)
  own_most zero k l = AtMost_refl _
  own_most (suc n) k l = by_test (own_most n) (is_target p label r.states k)
    where
      by_test : ((j : ℕ) → j < length r.states → AtMost (best_in p (is_labelled p label) n (values_at r.states j)) (best (is_target p label r.states) r.rows n j)) → (b : Bool) →
          AtMost (if b then unit else greatest (map (λ c. value_in (best_in p (is_labelled p label) n) c.branches) (good_choices (p.choices (values_at r.states k)))))
          (if b then unit else greatest (map (expected (best (is_target p label r.states) r.rows n)) (choices_of k r.rows)))
      by_test ih true = AtMost_refl unit
      by_test ih false =
          step_most k l (best_in p (is_labelled p label) n) (best (is_target p label r.states) r.rows n) ih
          (greatest_not_negative (best (is_target p label r.states) r.rows n) (best_not_negative (is_target p label r.states) r.rows weights n) (choices_of k r.rows) (in_choices (λ (x : Row). AtMost nought x.weight) k r.rows weights))

pub own_at_most : MergingLaws → OwnAtMost
own_at_most laws p r label proper own weights n k l = own_most laws p r label proper own weights n k l
