-- Texts that are split at a byte which a part of them is without.
use Rattle.std.proofs.Common.{◌≡◌, ◌≢◌, ℕ, suc, ◌<◌, List, [], ◌∷◌, ◌++◌, length, get_or, refl, ap, ◌∙◌, arith}
use Rattle.command_words.specs.Numbers.{IsWithout}

pub without_tail : (c x : ℕ) (xs : List ℕ) → IsWithout c (x ∷ xs) → IsWithout c xs
without_tail c x xs h i l e = h (suc i) (omega arith) e

without_head : (c x : ℕ) (xs : List ℕ) → IsWithout c (x ∷ xs) → x ≢ c
without_head c x xs h e = h 0 (omega arith) e

-- the byte would stand in it
pub not_without : (c : ℕ) (xs ys : List ℕ) → IsWithout c (xs ++ c ∷ ys) → ⊥
not_without c [] ys h = without_head c c ys h refl
not_without c (x ∷ xs) ys h = not_without c xs ys (without_tail c x (xs ++ c ∷ ys) h)

-- the first place of the byte
pub first_split : (c : ℕ) (xs us ys vs : List ℕ) → xs ++ c ∷ ys ≡ us ++ c ∷ vs → IsWithout c xs → IsWithout c us → (xs ≡ us) × (ys ≡ vs)
first_split c [] [] ys vs e h k = (refl, cc)
first_split c [] (u ∷ us) ys vs e h k = absurd (without_head c u us k (cc))
first_split c (x ∷ xs) [] ys vs e h k = absurd (without_head c x xs h (cc))
first_split c (x ∷ xs) (u ∷ us) ys vs e h k =
    let front : x ≡ u = cc in
    let rest : xs ++ c ∷ ys ≡ us ++ c ∷ vs = cc in
    let r = first_split c xs us ys vs rest (without_tail c x xs h) (without_tail c u us k) in
    (let same : xs ≡ us = r.0 in cc, r.1)

-- the last place of the byte
pub last_split : (c : ℕ) (xs us ys vs : List ℕ) → xs ++ c ∷ ys ≡ us ++ c ∷ vs → IsWithout c ys → IsWithout c vs → (xs ≡ us) × (ys ≡ vs)
last_split c [] [] ys vs e h k = (refl, cc)
last_split c [] (u ∷ us) ys vs e h k =
    let rest : ys ≡ us ++ c ∷ vs = cc in
    absurd (not_without c us vs (λ i l z. let f : ◌≡◌ {A = ℕ} (get_or ys i 0) c = ap (λ w. get_or w i 0) rest ∙ z in let b : i < length ys = omega (arith, ap length rest) in h i b f))
last_split c (x ∷ xs) [] ys vs e h k =
    let rest : vs ≡ xs ++ c ∷ ys = cc in
    absurd (not_without c xs ys (λ i l z. let f : ◌≡◌ {A = ℕ} (get_or vs i 0) c = ap (λ w. get_or w i 0) rest ∙ z in let b : i < length vs = omega (arith, ap length rest) in k i b f))
last_split c (x ∷ xs) (u ∷ us) ys vs e h k =
    let front : x ≡ u = cc in
    let rest : xs ++ c ∷ ys ≡ us ++ c ∷ vs = cc in
    let r = last_split c xs us ys vs rest h k in
    (let same : xs ≡ us = r.0 in cc, r.1)
