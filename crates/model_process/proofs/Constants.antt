-- The first wrong value, by those before the first that is past the bound.
use Rattle.std.proofs.Common.{arith, ◌≡◌, ◌∙◌, refl, sym, ap, ap₂, subst, ℕ, suc, ◌+◌, ◌<◌, ◌≤◌, List, [], ◌∷◌, length, Bool, true, false, not, Some, None}
use Rattle.std.specs.Prelude.{◌++◌, ◌||◌, if◌then◌else◌}
use Rattle.std.specs.List.{list_any, position_or_len}
use Rattle.basics.specs.Booleans.{first_false, second_false}
use Rattle.basics.specs.Members.{none_at_end}
use Rattle.process_core.specs.declared.data.Given.{Given}
use Rattle.process_texts.specs.declared.given.GivenText.{GivenText}
use Rattle.process_texts.specs.declared.given.GivenText.TheVariants.{Good, Past, NoForm}
use Rattle.instance_start.specs.Description.{Constant}
use Rattle.instance_start.specs.Given.{fits, is_missing, misfit}
use Rattle.command_words.specs.Words.{Assignment}
use Rattle.model_process.specs.Constants.{givens, given_as, is_unfit, is_unfit_value, wrong_value, before_past, good_front}

-- ---- places
position_step : {X : Type 0} (p : X → Bool) (x : X) (xs : List X) → position_or_len p (x ∷ xs) ≡ (if p x then 0 else 1 + position_or_len p xs)
position_step p x xs = by_test (p x) (position_or_len p xs)
  where
    by_test : (b : Bool) (n : ℕ) → (if not b then 1 + n else 0) ≡ (if b then 0 else 1 + n)
    by_test true n = refl
    by_test false n = refl

pub position_within : {X : Type 0} (p : X → Bool) (xs : List X) → position_or_len p xs ≤ length xs
position_within p [] = omega arith
position_within p (x ∷ xs) = subst (λ n. n ≤ suc (length xs)) (sym (position_step p x xs)) (by_test (position_within p xs) (p x))
  where
    by_test : position_or_len p xs ≤ length xs → (b : Bool) → (if b then 0 else 1 + position_or_len p xs) ≤ suc (length xs)
    by_test ih true = omega arith
    by_test ih false = omega (arith, ih)

-- ---- the front
-- a value that is past the bound, or one behind it
abbrev pub late_value : GivenText → Bool → Bool
late_value (Good v) late = late
late_value Past late = true
late_value NoForm late = true

abbrev pub is_late : List Assignment → Bool
is_late [] = false
is_late (a ∷ values) = late_value a.value (is_late values)

pub length-front : (values : List Assignment) → length (good_front values) ≤ length values
length-front [] = omega arith
length-front (a ∷ values) = by_value a.value (length-front values)
  where
    by_value : (v : GivenText) → length (good_front values) ≤ length values → length (before_past a.name v (good_front values)) ≤ suc (length values)
    by_value (Good v) ih = omega (arith, ih)
    by_value Past ih = omega arith
    by_value NoForm ih = omega arith

late_length : (values : List Assignment) → is_late values ≡ true → length (good_front values) < length values
late_length [] h = absurd cc
late_length (a ∷ values) h = by_value (late_length values) (length-front values) a.value h
  where
    by_value : (is_late values ≡ true → length (good_front values) < length values) → length (good_front values) ≤ length values → (v : GivenText) → late_value v (is_late values) ≡ true →
        length (before_past a.name v (good_front values)) < suc (length values)
    by_value ih le (Good v) h = let k = ih h in omega (arith, k)
    by_value ih le Past h = omega arith
    by_value ih le NoForm h = omega arith

pub front_whole : (values : List Assignment) → is_late values ≡ false → (good_front values ≡ givens values) × (length (good_front values) ≡ length values)
front_whole [] h = (refl, refl)
front_whole (a ∷ values) h = by_value (front_whole values) a.value h
  where
    by_value : (is_late values ≡ false → (good_front values ≡ givens values) × (length (good_front values) ≡ length values)) → (v : GivenText) → late_value v (is_late values) ≡ false →
        (before_past a.name v (good_front values) ≡ given_as a.name v ++ givens values) × (length (before_past a.name v (good_front values)) ≡ suc (length values))
    by_value ih (Good v) h = let k = ih h in (ap (λ gs. record { name = a.name; value = v } ∷ gs) k.0, ap suc k.1)
    by_value ih Past h = absurd cc
    by_value ih NoForm h = absurd cc

module _ (cs : List Constant) where
  abbrev pub unfit_given : Given → Bool
  unfit_given g = not (fits cs g)

  -- the first wrong value stands where the first is that no constant takes, or at the first that is past the bound
  pub position_is : (values : List Assignment) → position_or_len (is_unfit cs) values ≡ position_or_len unfit_given (good_front values)
  position_is [] = refl
  position_is (a ∷ values) = position_step (is_unfit cs) a values ∙ by_value (position_is values) a.value
    where
      by_value : position_or_len (is_unfit cs) values ≡ position_or_len unfit_given (good_front values) → (v : GivenText) →
          (if is_unfit_value cs a.name v then 0 else 1 + position_or_len (is_unfit cs) values) ≡ position_or_len unfit_given (before_past a.name v (good_front values))
      by_value ih (Good v) =
          let g : Given = record { name = a.name; value = v } in
          ap (λ n. if unfit_given g then 0 else 1 + n) ih ∙ sym (position_step unfit_given g (good_front values))
      by_value ih Past = refl
      by_value ih NoForm = refl

  pub any_is : (values : List Assignment) → list_any (is_unfit cs) values ≡ (list_any unfit_given (good_front values) || is_late values)
  any_is [] = refl
  any_is (a ∷ values) = by_value (any_is values) a.value
    where
      by_test : (b x y z : Bool) → x ≡ (y || z) → (b || x) ≡ ((b || y) || z)
      by_test true x y z e = refl
      by_test false x y z e = e

      by_value : list_any (is_unfit cs) values ≡ (list_any unfit_given (good_front values) || is_late values) → (v : GivenText) →
          (is_unfit_value cs a.name v || list_any (is_unfit cs) values) ≡ (list_any unfit_given (before_past a.name v (good_front values)) || late_value v (is_late values))
      by_value ih (Good v) = by_test (unfit_given (record { name = a.name; value = v })) (list_any (is_unfit cs) values) (list_any unfit_given (good_front values)) (is_late values) ih
      by_value ih Past = refl
      by_value ih NoForm = refl

  -- what the wrong value is, by the front
  wrong_is : (values : List Assignment) → wrong_value cs values ≡
      (if list_any unfit_given (good_front values) || is_late values then Some (position_or_len unfit_given (good_front values))
      else (if list_any (is_missing (givens values)) cs then Some (length values) else None))
  wrong_is values = ap₂ (λ b n. if b then Some n else (if list_any (is_missing (givens values)) cs then Some (length values) else None)) (any_is values) (position_is values)

  module _ (values : List Assignment) where
    by_cases : (a l m n : Bool) (p f k : ℕ) → (a ≡ false → p ≡ f) → (l ≡ false → (n ≡ m) × (f ≡ k)) → (i : ℕ) →
        (if a then Some p else (if m then Some f else None)) ≡ Some i → (if a || l then Some p else (if n then Some k else None)) ≡ Some i
    by_cases true l m n p f k g h i o = o
    by_cases false true true n p f k g h i o = ap Some (g refl) ∙ o
    by_cases false true false n p f k g h i o = absurd cc
    by_cases false false m n p f k g h i o = ap₂ (λ b x. if b then Some x else None) (h refl).0 (sym (h refl).1) ∙ o

    not_late : is_late values ≡ false → (list_any (is_missing (givens values)) cs ≡ list_any (is_missing (good_front values)) cs) × (length (good_front values) ≡ length values)
    not_late h = let k = front_whole values h in (ap (λ gs. list_any (is_missing gs) cs) (sym k.0), k.1)

    -- a front that doesn't fit
    pub wrong_by_front : (i : ℕ) → misfit cs (good_front values) ≡ Some i → wrong_value cs values ≡ Some i
    wrong_by_front i e =
        wrong_is values
        ∙ by_cases (list_any unfit_given (good_front values)) (is_late values) (list_any (is_missing (good_front values)) cs) (list_any (is_missing (givens values)) cs)
        (position_or_len unfit_given (good_front values)) (length (good_front values)) (length values) (none_at_end unfit_given (good_front values)) not_late i e

    none_cases : (a l m n : Bool) (p f k : ℕ) → (a ≡ false → p ≡ f) → (if a then Some p else (if m then Some f else None)) ≡ None → l ≡ true →
        (if a || l then Some p else (if n then Some k else None)) ≡ Some f
    none_cases true l m n p f k g o t = absurd cc
    none_cases false true m n p f k g o t = ap Some (g refl)
    none_cases false false m n p f k g o t = absurd cc

    pub late_is : length (good_front values) < length values → is_late values ≡ true
    late_is h = by_late (is_late values) refl
      where
        by_late : (b : Bool) → is_late values ≡ b → is_late values ≡ true
        by_late true e = e
        by_late false e = let k = (front_whole values e).1 in absurd (omega (arith, h, k))

    -- a front that fits, before a value that is past the bound
    pub wrong_by_past : misfit cs (good_front values) ≡ None → length (good_front values) < length values → wrong_value cs values ≡ Some (length (good_front values))
    wrong_by_past e h =
        wrong_is values
        ∙ none_cases (list_any unfit_given (good_front values)) (is_late values) (list_any (is_missing (good_front values)) cs) (list_any (is_missing (givens values)) cs)
        (position_or_len unfit_given (good_front values)) (length (good_front values)) (length values) (none_at_end unfit_given (good_front values)) e (late_is h)

    fit_cases : (a l m n : Bool) (p f k : ℕ) → n ≡ m → (if a then Some p else (if m then Some f else None)) ≡ None → l ≡ false →
        (if a || l then Some p else (if n then Some k else None)) ≡ None
    fit_cases true l m n p f k g o t = absurd cc
    fit_cases false true m n p f k g o t = absurd cc
    fit_cases false false true n p f k g o t = absurd cc
    fit_cases false false false n p f k g o t = ap (λ b. if b then Some k else None) g

    pub not_late_is : (length (good_front values) < length values → ⊥) → is_late values ≡ false
    not_late_is h = by_late (is_late values) refl
      where
        by_late : (b : Bool) → is_late values ≡ b → is_late values ≡ false
        by_late true e = absurd (h (late_length values e))
        by_late false e = e

    -- all fit, and none is past the bound
    pub all_fit : misfit cs (good_front values) ≡ None → (length (good_front values) < length values → ⊥) → (wrong_value cs values ≡ None) × (good_front values ≡ givens values)
    all_fit e h =
        let t = not_late_is h in (
          wrong_is values
              ∙ fit_cases (list_any unfit_given (good_front values)) (is_late values) (list_any (is_missing (good_front values)) cs) (list_any (is_missing (givens values)) cs)
              (position_or_len unfit_given (good_front values)) (length (good_front values)) (length values) (not_late t).0 e t,
          (front_whole values t).0,
        )

-- a misfit stands within the values, or at their end
pub misfit_within : (cs : List Constant) (gs : List Given) (i : ℕ) → misfit cs gs ≡ Some i → i ≤ length gs
misfit_within cs gs i e = by_cases (list_any (λ g. not (fits cs g)) gs) (list_any (is_missing gs) cs) e
  where
    by_cases : (a m : Bool) → (if a then Some (position_or_len (λ g. not (fits cs g)) gs) else (if m then Some (length gs) else None)) ≡ Some i → i ≤ length gs
    by_cases true m e = let same : position_or_len (λ g. not (fits cs g)) gs ≡ i = cc in let h = position_within (λ g. not (fits cs g)) gs in omega (arith, same, h)
    by_cases false true e = let same : length gs ≡ i = cc in omega (arith, same)
    by_cases false false e = absurd cc

-- where no value is wrong, none is past the bound, and all fit
pub none_wrong : (cs : List Constant) (values : List Assignment) → wrong_value cs values ≡ None → misfit cs (givens values) ≡ None
none_wrong cs values h = by_cases (list_any (is_unfit cs) values) (list_any (is_missing (givens values)) cs) refl refl h
  where
    all_taken : (values : List Assignment) → list_any (is_unfit cs) values ≡ false → list_any (λ g. not (fits cs g)) (givens values) ≡ false
    all_taken [] e = refl
    all_taken (a ∷ values) e = by_value a.value (first_false (is_unfit_value cs a.name a.value) _ e) (all_taken values (second_false (is_unfit_value cs a.name a.value) _ e))
      where
        by_value : (v : GivenText) → is_unfit_value cs a.name v ≡ false → list_any (λ g. not (fits cs g)) (givens values) ≡ false → list_any (λ g. not (fits cs g)) (given_as a.name v ++ givens values) ≡ false
        by_value (Good v) k ih = ap₂ (λ b c. b || c) k ih
        by_value Past k ih = ih
        by_value NoForm k ih = ih

    by_cases : (a m : Bool) → list_any (is_unfit cs) values ≡ a → list_any (is_missing (givens values)) cs ≡ m →
        (if a then Some (position_or_len (is_unfit cs) values) else (if m then Some (length values) else None)) ≡ None → misfit cs (givens values) ≡ None
    by_cases true m e f k = absurd cc
    by_cases false true e f k = absurd cc
    by_cases false false e f k =
        ap₂ (λ b c. if b then Some (position_or_len (λ g. not (fits cs g)) (givens values)) else (if c then Some (length (givens values)) else None)) (all_taken values e) f
