-- Sums that are capped, one summand more.
use Rattle.std.specs.Prelude.{◌≡◌, ℕ, zero, suc, ◌+◌, ◌*◌, ◌-◌, ◌^◌, ◌<◌, ◌≤◌, List, [], ◌∷◌, map, length, take, get_or, Bool, true, false, cond, Option, Some, unwrap_or, bytes_eq, if◌then◌else◌}
use Rattle.std.specs.List.{filter, sum_by}
use Rattle.std.proofs.Common.{refl, sym, ap, ap₂, ◌∙◌, arith, ◌⊎◌, inl, inr}
use Rattle.std.proofs.lemmas.Bool.{cases_lt}
use Rattle.std.proofs.Math.Nat.{mul-suc, mul-zero, mul_comm, zero-mul}
use Rattle.std.proofs.lemmas.List.{map-append}
use Rattle.std.proofs.lemmas.List.Elements.{filter-append}
use Rattle.std.proofs.lemmas.List.Sums.{sum_by-append, sum_by-cons}
use Rattle.std.proofs.lemmas.Slice.Eq.{bytes_eq-Decides}
use Rattle.op_trees.specs.Tree.{capped}
use Rattle.process_core.specs.Ready.{Name}
use Rattle.gathering.proofs.Loops.{taken}

-- ---- a sum under a name
pub put_sum : (key x : Name) (old : Name → ℕ) (n sum : ℕ) (before after : Option ℕ) → sum ≡ capped (old key + n) → unwrap_or before 0 ≡ old x → after ≡ (if bytes_eq key x then Some sum else before) →
    unwrap_or after 0 ≡ (if bytes_eq key x then capped (old x + n) else old x)
put_sum key x old n sum before after is same put = ap (λ o. unwrap_or o 0) put ∙ by_test (bytes_eq key x) refl
  where
    by_test : (b : Bool) → bytes_eq key x ≡ b → unwrap_or (if b then Some sum else before) 0 ≡ (if b then capped (old x + n) else old x)
    by_test true e = is ∙ ap (λ y. capped (old y + n)) ((bytes_eq-Decides key x).0 e)
    by_test false e = same

-- ---- one summand more
module _ {X Y : Type 0} (g : Y → ℕ) (s : X → Y) (xs : List X) (i : ℕ) (x : X) (h : i < length xs) (e : x ≡ get_or xs i x) where
  module _ (p : Y → Bool) where
    kept_next : sum_by g (filter p (map s (take (i + 1) xs))) ≡ sum_by g (filter p (map s (take i xs))) + (if p (s x) then g (s x) else 0)
    kept_next =
        ap (λ l. sum_by g (filter p (map s l))) (taken xs i x h e)
        ∙ ap (λ l. sum_by g (filter p l)) (map-append s (take i xs) (x ∷ []))
        ∙ ap (sum_by g) (filter-append p (map s (take i xs)) (s x ∷ []))
        ∙ sum_by-append g (filter p (map s (take i xs))) (cond (p (s x)) (s x ∷ []) [])
        ∙ ap (λ n. sum_by g (filter p (map s (take i xs))) + n) (one (p (s x)))
      where
        one : (b : Bool) → sum_by g (cond b (s x ∷ []) []) ≡ (if b then g (s x) else 0)
        one true = omega arith
        one false = refl

    pub sum_kept : (old new : ℕ) → old ≡ capped (sum_by g (filter p (map s (take i xs)))) → new ≡ (if p (s x) then capped (old + g (s x)) else old) →
        new ≡ capped (sum_by g (filter p (map s (take (i + 1) xs))))
    sum_kept old new so_far added = by_test (p (s x)) added kept_next
      where
        by_test : (b : Bool) → new ≡ (if b then capped (old + g (s x)) else old) →
            sum_by g (filter p (map s (take (i + 1) xs))) ≡ sum_by g (filter p (map s (take i xs))) + (if b then g (s x) else 0) → new ≡ capped (sum_by g (filter p (map s (take (i + 1) xs))))
        by_test true a n = omega (arith, so_far, a, n)
        by_test false a n = omega (arith, so_far, a, n)

-- one element more of those that are left
pub capped_rest : (old new n rest total : ℕ) → new ≡ capped (old + n) → capped (old + (n + rest)) ≡ total → capped (new + rest) ≡ total
capped_rest old new n rest total added so_far = (let e : capped (new + rest) ≡ capped (old + (n + rest)) = omega (arith, added) in e) ∙ so_far

-- what is few with it was few before
pub capped_within : (old n new : ℕ) → new ≡ capped (old + n) → new ≤ 200000 → old ≤ 200000
capped_within old n new added few = omega (arith, added, few)

-- two and three summands, each capped
pub two_capped : (a b x y both total : ℕ) → a ≡ capped x → b ≡ capped y → both ≡ capped (a + b) → total ≡ x + y → both ≡ capped total
two_capped a b x y both total i j sum all = omega (arith, i, j, sum, all)

pub three_capped : (a b c x y z both whole total : ℕ) → a ≡ capped x → b ≡ capped y → c ≡ capped z → both ≡ capped (a + b) → whole ≡ capped (both + c) → total ≡ x + y + z → whole ≡ capped total
three_capped a b c x y z both whole total i j k sum last all = omega (arith, i, j, k, sum, last, all)

-- two factors, each capped
pub capped_product : (a b x y : ℕ) → a ≡ capped x → b ≡ capped y → capped (a * b) ≡ capped (x * y)
capped_product a b x y i j = ap₂ (λ m n. capped (m * n)) i j ∙ by_sizes (cases_lt (2 ^ 64 - 1) x) (cases_lt (2 ^ 64 - 1) y)
  where
    small : (n : ℕ) → n ≤ 2 ^ 64 - 1 → capped n ≡ n
    small n l = omega (arith, l)

    large : (n : ℕ) → 2 ^ 64 - 1 ≤ n → capped n ≡ 2 ^ 64 - 1
    large n l = omega (arith, l)

    -- where the first is large
    first : (m n : ℕ) → 2 ^ 64 - 1 ≤ m → capped (m * n) ≡ capped ((2 ^ 64 - 1) * n)
    first m zero l = ap capped (mul-zero m ∙ sym (mul-zero (2 ^ 64 - 1)))
    first m (suc n) l =
        let e = mul-suc m n in
        let f = mul-suc (2 ^ 64 - 1) n in
        large (m * suc n) (omega (arith, e, l)) ∙ sym (large ((2 ^ 64 - 1) * suc n) (omega (arith, f)))

    second : (m n : ℕ) → 2 ^ 64 - 1 ≤ n → capped (m * n) ≡ capped (m * (2 ^ 64 - 1))
    second m n l = ap capped (mul_comm m n) ∙ first n m l ∙ ap capped (mul_comm (2 ^ 64 - 1) m)

    by_sizes : (2 ^ 64 - 1 < x) ⊎ (x ≤ 2 ^ 64 - 1) → (2 ^ 64 - 1 < y) ⊎ (y ≤ 2 ^ 64 - 1) → capped (capped x * capped y) ≡ capped (x * y)
    by_sizes (inl l) (inl m) =
        ap₂ (λ p q. capped (p * q)) (large x (omega (arith, l))) (large y (omega (arith, m)))
        ∙ sym (first x (2 ^ 64 - 1) (omega (arith, l))) ∙ sym (second x y (omega (arith, m)))
    by_sizes (inl l) (inr m) = ap₂ (λ p q. capped (p * q)) (large x (omega (arith, l))) (small y m) ∙ sym (first x y (omega (arith, l)))
    by_sizes (inr l) (inl m) = ap₂ (λ p q. capped (p * q)) (small x l) (large y (omega (arith, m))) ∙ sym (second x y (omega (arith, m)))
    by_sizes (inr l) (inr m) = ap₂ (λ p q. capped (p * q)) (small x l) (small y m)

-- one factor that is capped
pub capped_factor : (n b y : ℕ) → b ≡ capped y → capped (n * b) ≡ capped (n * y)
capped_factor n b y e = sym (capped_product (capped n) b n b refl (let f : b ≡ capped b = omega (arith, e) in f)) ∙ capped_product (capped n) b n y refl e

-- one product more
pub product_next : {X : Type 0} (f : X → ℕ) (xs : List X) (i : ℕ) (x : X) (old new n : ℕ) → i < length xs → x ≡ get_or xs i x → old ≡ capped (sum_by f (take i xs)) →
    n ≡ capped (f x) → new ≡ capped (old + n) → new ≡ capped (sum_by f (take (i + 1) xs))
product_next f xs i x old new n h e so_far is added =
    let all : sum_by f (take (i + 1) xs) ≡ sum_by f (take i xs) + f x =
    ap (sum_by f) (taken xs i x h e) ∙ sum_by-append f (take i xs) (x ∷ []) ∙ ap (λ m. sum_by f (take i xs) + m) (sum_by-cons f x [] ∙ (let z : f x + 0 ≡ f x = omega arith in z)) in
    omega (arith, so_far, is, added, all)

-- at the end
pub capped_done : (n rest total : ℕ) → n ≤ 2 ^ 64 - 1 → rest ≡ 0 → capped (n + rest) ≡ capped total → n ≡ capped total
capped_done n rest total few none so_far = omega (arith, few, none, so_far)

-- what is 0 when it is capped is 0
pub capped_zero : (n a : ℕ) → 0 ≡ capped n → 0 ≡ capped (n * a)
capped_zero zero a h = ap capped (sym (zero-mul a))
capped_zero (suc n) a h = absurd (omega (arith, h))
