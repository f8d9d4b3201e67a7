-- Numbers that stand at 2^64 - 1 where they would pass it.
use Rattle.std.proofs.Common.{◌≡◌, ℕ, zero, suc, ◌+◌, ◌*◌, ◌-◌, ◌^◌, ◌<◌, ◌≤◌, min, List, map, length, get_or, drop, sym, ap, ◌∙◌, arith, ◌⊎◌, inl, inr, nat_lt}
use Rattle.std.proofs.lemmas.Bool.{cases_lt, lt-ltb, le-ltb}
use Rattle.std.proofs.lemmas.List.{at_drop_all}
use Rattle.basics.specs.Lists.{drop_item}
use Rattle.op_trees.specs.Tree.{capped}
use Rattle.process_core.specs.Product.{multiplied}

-- the cap may be set at each factor
past : (k a m r : ℕ) → k ≤ suc a * m → min (k * suc r) k ≡ min (suc a * (m * suc r)) k
past k a m r h =
    let l : min (k * suc r) k ≡ k = omega arith in
    let g : min (suc a * (m * suc r)) k ≡ k = omega arith in
    l ∙ sym g

pub capped_times : (k a m r : ℕ) → min (min (a * min m k) k * r) k ≡ min (a * (m * r)) k
capped_times k zero m r = ap (λ n. min (n * r) k) (let f : min (0 * min m k) k ≡ 0 = omega arith in f) ∙ (let f : min (0 * r) k ≡ min (0 * (m * r)) k = omega arith in f)
capped_times k (suc a) m zero = omega arith
capped_times k (suc a) m (suc r) = by_size (cases_lt k m)
  where
    by_product : min m k ≡ m → (k < suc a * m) ⊎ (suc a * m ≤ k) → min (min (suc a * min m k) k * suc r) k ≡ min (suc a * (m * suc r)) k
    by_product e (inr h) =
        ap (λ n. min (min (suc a * n) k * suc r) k) e
        ∙ ap (λ n. min (n * suc r) k) (let f : min (suc a * m) k ≡ suc a * m = omega arith in f)
        ∙ ap (λ n. min n k) (let f : (suc a * m) * suc r ≡ suc a * (m * suc r) = omega arith in f)
    by_product e (inl h) =
        ap (λ n. min (min (suc a * n) k * suc r) k) e
        ∙ ap (λ n. min (n * suc r) k) (let f : min (suc a * m) k ≡ k = omega arith in f)
        ∙ past k a m r (let f : k ≤ suc a * m = omega arith in f)

    by_size : (k < m) ⊎ (m ≤ k) → min (min (suc a * min m k) k * suc r) k ≡ min (suc a * (m * suc r)) k
    by_size (inr h) = by_product (let f : min m k ≡ m = omega arith in f) (cases_lt k (suc a * m))
    by_size (inl h) =
        ap (λ n. min (min (suc a * n) k * suc r) k) (let f : min m k ≡ k = omega arith in f)
        ∙ ap (λ n. min (n * suc r) k) (let f : min (suc a * k) k ≡ k = omega arith in f)
        ∙ past k a m r (let f : k ≤ suc a * m = omega arith in f)

-- one factor more
pub times_more : {A : Type 0} (f : A → ℕ) (xs : List A) (i : ℕ) (x : A) (old new whole : ℕ) → i < length xs → x ≡ get_or xs i x → new ≡ capped (old * capped (f x)) →
    capped (old * multiplied (map f (drop i xs))) ≡ whole → capped (new * multiplied (map f (drop (i + 1) xs))) ≡ whole
times_more f xs i x old new whole h e next so_far =
    ap (λ n. capped (n * multiplied (map f (drop (i + 1) xs)))) next
    ∙ capped_times (2 ^ 64 - 1) old (f x) (multiplied (map f (drop (i + 1) xs)))
    ∙ ap (λ l. capped (old * multiplied (map f l))) (sym (drop_item xs i x h e))
    ∙ so_far

pub times_all : {A : Type 0} (f : A → ℕ) (xs : List A) (i count whole : ℕ) → length xs ≤ i → count < 2 ^ 64 → capped (count * multiplied (map f (drop i xs))) ≡ whole → count ≡ whole
times_all f xs i count whole h l so_far =
    (let e : count ≡ min (count * 1) (2 ^ 64 - 1) = omega arith in e)
    ∙ sym (at_drop_all (λ l. capped (count * multiplied (map f l))) xs i h)
    ∙ so_far

-- a test below the cap
pub capped_passes : (k n : ℕ) → k < 2 ^ 64 - 1 → nat_lt k (capped n) ≡ nat_lt k n
capped_passes k n h = by_size (cases_lt k n)
  where
    by_size : (k < n) ⊎ (n ≤ k) → nat_lt k (capped n) ≡ nat_lt k n
    by_size (inr l) = le-ltb k (capped n) (omega arith) ∙ sym (le-ltb k n l)
    by_size (inl g) = lt-ltb k (capped n) (omega arith) ∙ sym (lt-ltb k n g)
