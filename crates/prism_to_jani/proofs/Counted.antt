-- Columns that are the variables of their numbers, and the numbers that they have among the columns of the other model.
use Rattle.std.specs.Prelude.{◌≡◌, ℕ, zero, suc, ◌+◌, ◌<◌, ◌≤◌, List, [], ◌∷◌, ◌++◌, map, length, Bool, true, false, cond, nat_eq, replicate, get_or}
use Rattle.std.specs.List.{All, count_by}
use Rattle.std.proofs.Common.{refl, ap, ap₂, ◌∙◌, arith, eqb-true}
use Rattle.std.proofs.lemmas.Bool.{ne_eqb}
use Rattle.std.proofs.lemmas.List.{map-append}
use Rattle.std.proofs.lemmas.List.Elements.{All-nil, All-cons}
use Rattle.std.proofs.lemmas.List.Sums.{sum_by-cons}
use Rattle.choice_laws.specs.Columns.{counting}
use Rattle.carry_maps.specs.declared.map.Column.TheVariants.{Variable}
use Rattle.carry_maps.specs.Maps.{column_number}

-- the same member for each
pub all_same : {A B : Type 0} (b : B) (xs : List A) → map (λ x. b) xs ≡ replicate (length xs) b
all_same b [] = refl
all_same b (x ∷ xs) = ap (λ r. b ∷ r) (all_same b xs)

-- one more number
counting_more : (k n : ℕ) → counting k (n + 1) ≡ counting k n ++ (k + n) ∷ []
counting_more k zero = let e : k ≡ k + 0 = omega arith in ap (λ j. j ∷ []) e
counting_more k (suc n) =
    (let e : suc n + 1 ≡ suc (n + 1) = omega arith in ap (counting k) e)
    ∙ ap (λ r. k ∷ r) (counting_more (k + 1) n)
    ∙ (let e : (k + 1) + n ≡ k + suc n = omega arith in ap (λ j. k ∷ (counting (k + 1) n ++ j ∷ [])) e)

-- one more column
pub columns_more : (n : ℕ) → map Variable (counting 0 (n + 1)) ≡ map Variable (counting 0 n) ++ Variable n ∷ []
columns_more n =
    ap (map Variable) (counting_more 0 n)
    ∙ map-append Variable (counting 0 n) ((0 + n) ∷ [])
    ∙ (let e : 0 + n ≡ n = omega arith in ap (λ j. map Variable (counting 0 n) ++ Variable j ∷ []) e)

-- the variables stand behind the locations
pub numbered_behind : (n k m : ℕ) → map (column_number n) (map Variable (counting k m)) ≡ counting (n + k) m
numbered_behind n k zero = refl
numbered_behind n k (suc m) =
    ap (λ r. (n + k) ∷ r) (numbered_behind n (k + 1) m ∙ (let e : n + (k + 1) ≡ (n + k) + 1 = omega arith in ap (λ j. counting j m) e))

pub all_below : (k m n : ℕ) → k + m ≤ n → All (λ i. i < n) (counting k m)
all_below k zero n l = All-nil (λ i. i < n)
all_below k (suc m) n l = All-cons (λ i. i < n) k (counting (k + 1) m) (omega arith) (all_below (k + 1) m n (omega arith))

-- a number before the first isn't counted, and no number more than once
none_before : (i k m : ℕ) → i < k → count_by (λ c. nat_eq c i) (counting k m) ≡ 0
none_before i k zero l = refl
none_before i k (suc m) l =
    sum_by-cons (λ c. cond (nat_eq c i) 1 0) k (counting (k + 1) m)
    ∙ ap₂ (λ b n. cond b 1 0 + n) (ne_eqb k i (λ e. (let f : k ≡ i = e in omega arith))) (none_before i (k + 1) m (omega arith))

once : (i k m : ℕ) → count_by (λ c. nat_eq c i) (counting k m) ≤ 1
once i k zero = omega arith
once i k (suc m) = by_test (nat_eq k i) refl (once i (k + 1) m)
  where
    by_test : (b : Bool) → nat_eq k i ≡ b → count_by (λ c. nat_eq c i) (counting (k + 1) m) ≤ 1 → count_by (λ c. nat_eq c i) (counting k (suc m)) ≤ 1
    by_test true e h =
        let first = sum_by-cons (λ c. cond (nat_eq c i) 1 0) k (counting (k + 1) m) ∙ ap (λ b. cond b 1 0 + count_by (λ c. nat_eq c i) (counting (k + 1) m)) e in
        let same : k ≡ i = eqb-true k i e in
        let rest = none_before i (k + 1) m (omega arith) in
        omega arith
    by_test false e h =
        let first = sum_by-cons (λ c. cond (nat_eq c i) 1 0) k (counting (k + 1) m) ∙ ap (λ b. cond b 1 0 + count_by (λ c. nat_eq c i) (counting (k + 1) m)) e in
        omega arith

pub each_once : (k m : ℕ) → All (λ i. count_by (λ c. nat_eq c i) (counting k m) ≤ 1) (counting k m)
each_once k m j d l = once (get_or (counting k m) j d) k m
