-- Members that are counted: members that pass exactly one of some tests, lists that hold the same members once each, and the two
-- parts of a list that a test makes.
use Rattle.std.specs.Prelude.{◌≡◌, ◌⊎◌, ℕ, ◌+◌, ◌*◌, List, [], ◌∷◌, ◌++◌, Bool, true, false, not, ◌||◌, cond, get_or}
use Rattle.std.specs.List.{flat_map, filter, list_any, sum_by, count_by, All}
use Rattle.std.proofs.Common.{refl, inl, inr, sym, ap, ap₂, ◌∙◌, arith}
use Rattle.std.proofs.lemmas.Bool.{or_right}
use Rattle.std.proofs.lemmas.List.Sums.{sum_by-cons, sum_by-append}
use Rattle.std.proofs.lemmas.List.Filters.{sum_by-filter_both}
use Rattle.std.proofs.lemmas.List.Elements.{All-nil, All-cons, All-head, All-tail, All-weaker}
use Rattle.basics.specs.Booleans.{same_test}
use Rattle.process_core.specs.Process.{EquallyOften, IsIn}
use Rattle.process_core.specs.Often.{sum_by_agree, sum_by-flat_map, sum_by-filter, sum_by_exchange}
use Rattle.process_core.specs.Equal.{IsEquality}
use Rattle.process_core.proofs.Targets.{Distinct}

-- ---- counts
pub if_zero : (b : Bool) → ◌≡◌ {A = ℕ} (cond b 0 0) 0
if_zero true = refl
if_zero false = refl

pub count_agree : {X : Type 0} (f g : X → Bool) (xs : List X) → ((x : X) → f x ≡ g x) → count_by f xs ≡ count_by g xs
count_agree f g [] h = refl
count_agree f g (x ∷ xs) h =
    sum_by-cons (λ y. cond (f y) 1 0) x xs ∙ ap₂ (λ b n. cond b 1 0 + n) (h x) (count_agree f g xs h) ∙ sym (sum_by-cons (λ y. cond (g y) 1 0) x xs)

pub not_counted : {X : Type 0} (q : X → Bool) (xs : List X) → count_by q xs ≡ 0 → All (λ x. q x ≡ false) xs
not_counted q [] h = All-nil (λ x. q x ≡ false)
not_counted q (x ∷ xs) h =
    let c = sum_by-cons (λ y. cond (q y) 1 0) x xs in
    All-cons (λ x. q x ≡ false) x xs (not_one (q x) (count_by q xs) (sym c ∙ h)) (not_counted q xs (rest (q x) (count_by q xs) (sym c ∙ h)))
  where
    not_one : (b : Bool) (n : ℕ) → cond b 1 0 + n ≡ 0 → b ≡ false
    not_one true n h = absurd (omega arith)
    not_one false n h = refl

    rest : (b : Bool) (n : ℕ) → cond b 1 0 + n ≡ 0 → n ≡ 0
    rest true n h = absurd (omega arith)
    rest false n h = omega arith

pub none_counted : {X : Type 0} (q : X → Bool) (xs : List X) → list_any q xs ≡ false → count_by q xs ≡ 0
none_counted q [] h = refl
none_counted q (x ∷ xs) h = sum_by-cons (λ y. cond (q y) 1 0) x xs ∙ by_test (q x) h (none_counted q xs)
  where
    by_test : (b : Bool) → (b || list_any q xs) ≡ false → (list_any q xs ≡ false → count_by q xs ≡ 0) → cond b 1 0 + count_by q xs ≡ 0
    by_test true h ih = absurd cc
    by_test false h ih = let e = ih h in omega arith

-- ---- members that pass one of some tests
pub sum_by_agree_in : {X : Type 0} (g h : X → ℕ) (xs : List X) → All (λ x. g x ≡ h x) xs → sum_by g xs ≡ sum_by h xs
sum_by_agree_in g h [] e = refl
sum_by_agree_in g h (x ∷ xs) e =
    sum_by-cons g x xs ∙ ap₂ (λ a b. a + b) (All-head (λ x. g x ≡ h x) x xs e) (sum_by_agree_in g h xs (All-tail (λ x. g x ≡ h x) x xs e)) ∙ sym (sum_by-cons h x xs)

scaled_more : (b : Bool) (n m : ℕ) → cond b n 0 + m * n ≡ (cond b 1 0 + m) * n
scaled_more true n m = omega arith
scaled_more false n m = omega arith

-- what weighs n where a test holds weighs n as often as it does
pub sum_scaled : {T : Type 0} (q : T → Bool) (n : ℕ) (ts : List T) → sum_by (λ t. cond (q t) n 0) ts ≡ count_by q ts * n
sum_scaled q n [] = omega arith
sum_scaled q n (t ∷ ts) =
    sum_by-cons (λ t. cond (q t) n 0) t ts
    ∙ ap (λ a. cond (q t) n 0 + a) (sum_scaled q n ts)
    ∙ scaled_more (q t) n (count_by q ts)
    ∙ ap (λ a. a * n) (sym (sum_by-cons (λ t. cond (q t) 1 0) t ts))

once : {T : Type 0} (q : T → Bool) (n : ℕ) (ts : List T) → count_by q ts ≡ 1 → sum_by (λ t. cond (q t) n 0) ts ≡ n
once q n ts h = sum_scaled q n ts ∙ ap (λ a. a * n) h ∙ omega arith

-- where each member passes one of the tests, the members are those that pass each test in turn
pub parted_once : {X T : Type 0} (q : T → X → Bool) (ts : List T) (xs : List X) → All (λ x. count_by (λ t. q t x) ts ≡ 1) xs →
    EquallyOften xs (flat_map (λ t. filter (q t) xs) ts)
parted_once q ts xs h = record {
  weighs = λ g. sym
      (sum_by-flat_map g (λ t. filter (q t) xs) ts
      ∙ sum_by_agree _ _ (λ t. sum_by-filter g (q t) xs) ts
      ∙ sum_by_exchange (λ t x. cond (q t x) (g x) 0) ts xs
      ∙ sum_by_agree_in (λ x. sum_by (λ t. cond (q t x) (g x) 0) ts) g xs (λ k d l. let x = get_or xs k d in once (λ t. q t x) (g x) ts (h k d l)));
}

-- ---- what a test makes of a list
pub often_both : {X : Type 0} (p : X → Bool) (xs : List X) → EquallyOften xs (filter p xs ++ filter (λ x. not (p x)) xs)
often_both p xs = record {
  weighs = λ g. sym (sum_by-append g (filter p xs) (filter (λ x. not (p x)) xs) ∙ sum_by-filter_both p (λ x. not (p x)) (λ x. refl) g xs);
}

-- ---- lists that hold the same members once each
module _ {X : Type 0} (same : X → X → Bool) (eq : IsEquality same) where
  turned : (x y : X) → same x y ≡ same y x
  turned x y = same_test (same x y) (same y x) (λ h. (eq y x).1 (sym ((eq x y).0 h))) (λ h. (eq x y).1 (sym ((eq y x).0 h)))

  moved : (g : X → ℕ) (x y : X) (b : Bool) → same x y ≡ b → cond b (g x) 0 ≡ cond (same y x) (g y) 0
  moved g x y true e = ap g ((eq x y).0 e) ∙ ap (λ b. cond b (g y) 0) (sym e ∙ turned x y)
  moved g x y false e = ap (λ b. cond b (g y) 0) (sym e ∙ turned x y)

  -- two lists where each has each member of the other once
  pub once_each : (xs ys : List X) → All (λ x. count_by (same x) ys ≡ 1) xs → All (λ y. count_by (same y) xs ≡ 1) ys → EquallyOften xs ys
  once_each xs ys h k = record {
    weighs = λ g.
        sum_by_agree_in g (λ x. sum_by (λ y. cond (same x y) (g x) 0) ys) xs (λ i d l. let x = get_or xs i d in sym (once (same x) (g x) ys (h i d l)))
        ∙ sum_by_exchange (λ x y. cond (same x y) (g x) 0) xs ys
        ∙ sum_by_agree _ _ (λ y. sum_by_agree _ _ (λ x. moved g x y (same x y) refl) xs) ys
        ∙ sum_by_agree_in (λ y. sum_by (λ x. cond (same y x) (g y) 0) xs) g ys (λ i d l. let y = get_or ys i d in once (same y) (g y) xs (k i d l));
  }

  counted : (x y : X) (ys : List X) → count_by (same x) (y ∷ ys) ≡ cond (same x y) 1 0 + count_by (same x) ys
  counted x y ys = sum_by-cons (λ z. cond (same x z) 1 0) y ys

  -- a list without two that are the same has what it has once
  none_same : (x : X) (ys : List X) → All (λ y. same x y ≡ false) ys → count_by (same x) ys ≡ 0
  none_same x [] h = refl
  none_same x (y ∷ ys) h =
      counted x y ys ∙ ap₂ (λ b n. cond b 1 0 + n) (All-head (λ y. same x y ≡ false) y ys h) (none_same x ys (All-tail (λ y. same x y ≡ false) y ys h))

  once_at : (x y : X) (ys : List X) → All (λ z. same y z ≡ false) ys → (list_any (same x) ys ≡ true → count_by (same x) ys ≡ 1) →
      (b : Bool) → same x y ≡ b → (b || list_any (same x) ys) ≡ true → cond b 1 0 + count_by (same x) ys ≡ 1
  once_at x y ys d ih true e h =
      let n : count_by (same x) ys ≡ 0 = none_same x ys (λ i a l. ap (λ z. same z (get_or ys i a)) ((eq x y).0 e) ∙ d i a l) in
      omega arith
  once_at x y ys d ih false e h = let i = ih h in omega arith

  pub distinct_once : (x : X) (xs : List X) → Distinct same eq xs → list_any (same x) xs ≡ true → count_by (same x) xs ≡ 1
  distinct_once x [] d h = absurd cc
  distinct_once x (y ∷ ys) d h = counted x y ys ∙ once_at x y ys d.0 (distinct_once x ys d.1) (same x y) refl h

  -- a list has its own members
  pub has_its_own : (xs : List X) → All (λ x. list_any (same x) xs ≡ true) xs
  has_its_own [] = All-nil (λ x. list_any (same x) [] ≡ true)
  has_its_own (x ∷ xs) =
      All-cons (λ y. list_any (same y) (x ∷ xs) ≡ true) x xs
      (ap (λ b. b || list_any (same x) xs) ((eq x x).1 refl))
      (All-weaker (λ y. list_any (same y) xs ≡ true) (λ y. list_any (same y) (x ∷ xs) ≡ true) (λ y h. or_right (same y x) (list_any (same y) xs) h) xs (has_its_own xs))

  pub same_members : (xs ys : List X) → Distinct same eq xs → Distinct same eq ys → ((x : X) → list_any (same x) xs ≡ list_any (same x) ys) → EquallyOften xs ys
  same_members xs ys d e h =
      once_each xs ys
      (λ i a l. let x = get_or xs i a in distinct_once x ys e (sym (h x) ∙ has_its_own xs i a l))
      (λ i a l. let y = get_or ys i a in distinct_once y xs d (h y ∙ has_its_own ys i a l))

-- ---- a member of two lists joined
pub in_left : {X : Type 0} (x : X) (xs ys : List X) → IsIn x xs → IsIn x (xs ++ ys)
in_left x [] ys h = absurd h
in_left x (y ∷ xs) ys (inl e) = inl e
in_left x (y ∷ xs) ys (inr h) = inr (in_left x xs ys h)

pub in_right : {X : Type 0} (x : X) (xs ys : List X) → IsIn x ys → IsIn x (xs ++ ys)
in_right x [] ys h = h
in_right x (y ∷ xs) ys h = inr (in_right x xs ys h)

pub in_either : {X : Type 0} (x : X) (xs ys : List X) → IsIn x (xs ++ ys) → IsIn x xs ⊎ IsIn x ys
in_either x [] ys h = inr h
in_either x (y ∷ xs) ys (inl e) = inl (inl e)
in_either x (y ∷ xs) ys (inr h) = shift (in_either x xs ys h)
  where
    shift : IsIn x xs ⊎ IsIn x ys → IsIn x (y ∷ xs) ⊎ IsIn x ys
    shift (inl k) = inl (inr k)
    shift (inr k) = inr k
