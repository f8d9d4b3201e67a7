-- What a choice comes to is told by the sums of the probabilities to each listed state, where it leads to no other.
use Rattle.std.proofs.Common.{◌≡◌, ◌⊎◌, List, [], ◌∷◌, map, ◌||◌, Bool, true, false, cond, if◌then◌else◌, refl, sym, ap, ap₂, ◌∙◌, subst, subst₂, inl, inr}
use Rattle.std.specs.List.{All, filter}
use Rattle.std.proofs.lemmas.List.Elements.{All-head, All-tail, All-nil, All-cons}
use Rattle.basics.specs.Booleans.{first_false, second_false, same_test}
use Rattle.frac_core.specs.Fraction.{Fraction, nought, plus, times}
use Rattle.frac_core.specs.Laws.{plus_comm, plus_assoc, plus_nought, nought_plus, times_comm, times-plus, times_nought}
use Rattle.frac_core.specs.Order.{AtMost, AtMost_refl, AtMost_antisym, plus_AtMost}
use Rattle.frac_core.specs.Sums.{total}
use Rattle.process_core.specs.Process.{Branch}
use Rattle.process_core.specs.Ready.{Values}
use Rattle.process_core.specs.Equal.{equal_states, equal_states_is}
use Rattle.process_core.specs.Merged.{weights_to}
use Rattle.process_core.specs.declared.data.State.{State}
use Rattle.row_check.specs.declared.data.Row.{Row}
use Rattle.row_check.specs.Index.{stands_in, values_at}
use Rattle.row_check.specs.Merging.{branch_of_row}
use Rattle.value_bound.specs.Reaching.{expected}
use Rattle.value_bound.specs.Own.{value_in}
use Rattle.value_bound.proofs.Reached.{plus_both}

abbrev pub sum_to : List (Branch Fraction Values) → Values → Fraction
sum_to bs t = total (weights_to equal_states t bs)

abbrev pub part_to : Branch Fraction Values → Values → Fraction
part_to b t = if equal_states t b.target then b.probability else nought

sum_first : (b : Branch Fraction Values) (bs : List (Branch Fraction Values)) (t : Values) → sum_to (b ∷ bs) t ≡ plus (part_to b t) (sum_to bs t)
sum_first b bs t = by_test (equal_states t b.target)
  where
    by_test : (c : Bool) → total (map (λ (x : Branch Fraction Values). x.probability) (cond c (b ∷ filter (λ x. equal_states t x.target) bs) (filter (λ x. equal_states t x.target) bs))) ≡ plus (if c then b.probability else nought) (sum_to bs t)
    by_test true = refl
    by_test false = sym (nought_plus (sum_to bs t))

equal_turned : (s t : Values) → equal_states s t ≡ equal_states t s
equal_turned s t = same_test (equal_states s t) (equal_states t s) (λ h. (equal_states_is t s).1 (sym ((equal_states_is s t).0 h))) (λ h. (equal_states_is s t).1 (sym ((equal_states_is t s).0 h)))

-- ---- sums over the listed states
nought_times : (x : Fraction) → times nought x ≡ nought
nought_times x = times_comm nought x ∙ times_nought x

plus_four : (a b c d : Fraction) → plus (plus a b) (plus c d) ≡ plus (plus a c) (plus b d)
plus_four a b c d =
    plus_assoc a b (plus c d) ∙ ap (plus a) (sym (plus_assoc b c d) ∙ ap (λ x. plus x d) (plus_comm b c) ∙ plus_assoc c b d) ∙ sym (plus_assoc a c (plus b d))

module _ (g : Values → Fraction) where
  abbrev pub over : (Values → Fraction) → List State → Fraction
  over u ss = total (map (λ s. times (u s.values) (g s.values)) ss)

  pub over_agree : (u v : Values → Fraction) (ss : List State) → ((s : Values) → u s ≡ v s) → over u ss ≡ over v ss
  over_agree u v [] e = refl
  over_agree u v (s ∷ ss) e = ap₂ plus (ap (λ x. times x (g s.values)) (e s.values)) (over_agree u v ss e)

  over_nought : (ss : List State) → over (λ s. nought) ss ≡ nought
  over_nought [] = refl
  over_nought (s ∷ ss) = ap₂ plus (nought_times (g s.values)) (over_nought ss) ∙ plus_nought nought

  over_plus : (u v : Values → Fraction) (ss : List State) → over (λ s. plus (u s) (v s)) ss ≡ plus (over u ss) (over v ss)
  over_plus u v [] = sym (plus_nought nought)
  over_plus u v (s ∷ ss) =
      ap₂ plus (times_comm (plus (u s.values) (v s.values)) (g s.values) ∙ times-plus (g s.values) (u s.values) (v s.values) ∙ ap₂ plus (times_comm (g s.values) (u s.values)) (times_comm (g s.values) (v s.values))) (over_plus u v ss)
      ∙ plus_four (times (u s.values) (g s.values)) (times (v s.values) (g s.values)) (over u ss) (over v ss)

  over_none : (b : Branch Fraction Values) (ss : List State) → stands_in b.target ss ≡ false → over (part_to b) ss ≡ nought
  over_none b [] h = refl
  over_none b (s ∷ ss) h =
      let apart = equal_turned s.values b.target ∙ first_false (equal_states b.target s.values) (stands_in b.target ss) h in
      ap₂ plus (ap (λ c. times (if c then b.probability else nought) (g s.values)) apart ∙ nought_times (g s.values)) (over_none b ss (second_false (equal_states b.target s.values) (stands_in b.target ss) h))
      ∙ plus_nought nought

  -- states that stand once
  abbrev pub AreDistinct : List State → Type 0
  AreDistinct [] = Unit {0}
  AreDistinct (s ∷ ss) = (stands_in s.values ss ≡ false) × AreDistinct ss

  over_one : (b : Branch Fraction Values) (ss : List State) → AreDistinct ss → stands_in b.target ss ≡ true → over (part_to b) ss ≡ times b.probability (g b.target)
  over_one b [] d h = absurd cc
  over_one b (s ∷ ss) d h = by_test (over_one b ss d.1) (equal_states b.target s.values) refl h
    where
      by_test : (stands_in b.target ss ≡ true → over (part_to b) ss ≡ times b.probability (g b.target)) → (c : Bool) → c ≡ equal_states b.target s.values → (c || stands_in b.target ss) ≡ true → over (part_to b) (s ∷ ss) ≡ times b.probability (g b.target)
      by_test ih true e k =
          let same : b.target ≡ s.values = (equal_states_is b.target s.values).0 (sym e) in
          ap₂ plus (ap₂ (λ c v. times (if c then b.probability else nought) (g v)) (equal_turned s.values b.target ∙ sym e) (sym same))
          (over_none b ss (subst (λ v. stands_in v ss ≡ false) (sym same) d.0))
          ∙ plus_nought (times b.probability (g b.target))
      by_test ih false e k =
          ap₂ plus (ap (λ c. times (if c then b.probability else nought) (g s.values)) (equal_turned s.values b.target ∙ sym e) ∙ nought_times (g s.values)) (ih k)
          ∙ nought_plus (times b.probability (g b.target))

  -- each branch leads to a listed state, or has probability 0
  abbrev pub IsListed : List State → Branch Fraction Values → Type 0
  IsListed ss b = (stands_in b.target ss ≡ true) ⊎ (b.probability ≡ nought)

  over_part : (b : Branch Fraction Values) (ss : List State) → AreDistinct ss → IsListed ss b → over (part_to b) ss ≡ times b.probability (g b.target)
  over_part b ss d (inl h) = over_one b ss d h
  over_part b ss d (inr h) =
      over_agree (part_to b) (λ s. nought) ss (λ s. by_test (equal_states s b.target)) ∙ over_nought ss
      ∙ sym (ap (λ x. times x (g b.target)) h ∙ nought_times (g b.target))
    where
      by_test : (c : Bool) → (if c then b.probability else nought) ≡ nought
      by_test true = h
      by_test false = refl

  pub told_by_sums : (ss : List State) → AreDistinct ss → (bs : List (Branch Fraction Values)) → All (IsListed ss) bs → value_in g bs ≡ over (sum_to bs) ss
  told_by_sums ss d [] h = sym (over_nought ss)
  told_by_sums ss d (b ∷ bs) h =
      ap₂ plus (sym (over_part b ss d (All-head (IsListed ss) b bs h))) (told_by_sums ss d bs (All-tail (IsListed ss) b bs h))
      ∙ sym (over_plus (part_to b) (sum_to bs) ss)
      ∙ sym (over_agree (sum_to (b ∷ bs)) (λ s. plus (part_to b s) (sum_to bs s)) ss (sum_first b bs))

  -- the rows of a choice as branches
  pub rows_value : (ss : List State) (rs : List Row) → value_in g (map (branch_of_row ss) rs) ≡ expected (λ j. g (values_at ss j)) rs
  rows_value ss [] = refl
  rows_value ss (r ∷ rs) = ap (plus (times r.weight (g (values_at ss r.target)))) (rows_value ss rs)

-- ---- where the sums to all other states are 0
both_nought : (a b : Fraction) → AtMost nought a → AtMost nought b → plus a b ≡ nought → (a ≡ nought) × (b ≡ nought)
both_nought a b h k e = (
  AtMost_antisym a nought (subst₂ AtMost (nought_plus a) (plus_comm b a ∙ e) (plus_AtMost nought b a k)) h,
  AtMost_antisym b nought (subst₂ AtMost (nought_plus b) e (plus_AtMost nought a b h)) k,
)

part_not_negative : (b : Branch Fraction Values) (t : Values) → AtMost nought b.probability → AtMost nought (part_to b t)
part_not_negative b t h = by_test (equal_states t b.target)
  where
    by_test : (c : Bool) → AtMost nought (if c then b.probability else nought)
    by_test true = h
    by_test false = AtMost_refl nought

sum_not_negative : (bs : List (Branch Fraction Values)) (t : Values) → All (λ b. AtMost nought b.probability) bs → AtMost nought (sum_to bs t)
sum_not_negative [] t h = AtMost_refl nought
sum_not_negative (b ∷ bs) t h =
    subst₂ AtMost (plus_nought nought) (sym (sum_first b bs t))
    (plus_both nought (part_to b t) nought (sum_to bs t) (part_not_negative b t (All-head (λ (x : Branch Fraction Values). AtMost nought x.probability) b bs h)) (sum_not_negative bs t (All-tail (λ (x : Branch Fraction Values). AtMost nought x.probability) b bs h)))

pub listed_all : (g : Values → Fraction) (ss : List State) (bs : List (Branch Fraction Values)) → All (λ b. AtMost nought b.probability) bs → ((t : Values) → stands_in t ss ≡ false → sum_to bs t ≡ nought) → All (IsListed g ss) bs
listed_all g ss [] h k = All-nil (IsListed g ss)
listed_all g ss (b ∷ bs) h k =
    All-cons (IsListed g ss) b bs (here (stands_in b.target ss) refl) (listed_all g ss bs rest (λ t e. (parts t e).1))
  where
    rest : All (λ b. AtMost nought b.probability) bs
    rest = All-tail (λ (x : Branch Fraction Values). AtMost nought x.probability) b bs h

    parts : (t : Values) → stands_in t ss ≡ false → (part_to b t ≡ nought) × (sum_to bs t ≡ nought)
    parts t e =
        both_nought (part_to b t) (sum_to bs t) (part_not_negative b t (All-head (λ (x : Branch Fraction Values). AtMost nought x.probability) b bs h)) (sum_not_negative bs t rest)
        (sym (sum_first b bs t) ∙ k t e)

    here : (c : Bool) → c ≡ stands_in b.target ss → IsListed g ss b
    here true e = inl (sym e)
    here false e = inr (sym (ap (λ c. if c then b.probability else nought) ((equal_states_is b.target b.target).1 refl)) ∙ (parts b.target (sym e)).0)
