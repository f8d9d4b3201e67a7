-- Tables of numbers: what was entered, and what comes of how they grow.
use Rattle.std.specs.Prelude.{◌≡◌, ℕ, zero, suc, ◌<◌, ◌≤◌, List, [], ◌∷◌, ◌++◌, length, Bool, true, false, ◌||◌, get_or, nat_eq, slice_set}
use Rattle.std.specs.List.{list_any}
use Rattle.std.proofs.Common.{refl, sym, ap, ◌∙◌, arith}
use Rattle.std.proofs.Math.Dec.{eqb-suc-suc, eqb-suc-zero, eqb-zero-suc}
use Rattle.jani_instance.specs.Initial.{entered, may_begin, table_with}

-- ---- what was entered
entered_is : (k : ℕ) (bs : List Bool) (n : ℕ) → get_or (entered k bs) n false ≡ (nat_eq k n || get_or bs n false)
unfolding entered
entered_is zero [] zero = refl
entered_is zero [] (suc n) = sym (ap (λ c. c || false) (eqb-zero-suc n))
entered_is zero (b ∷ bs) zero = refl
entered_is zero (b ∷ bs) (suc n) = sym (ap (λ c. c || get_or bs n false) (eqb-zero-suc n))
entered_is (suc k) [] zero = sym (ap (λ c. c || false) (eqb-suc-zero k))
entered_is (suc k) [] (suc n) = entered_is k [] n ∙ ap (λ c. c || false) (sym (eqb-suc-suc k n))
entered_is (suc k) (b ∷ bs) zero = sym (ap (λ c. c || b) (eqb-suc-zero k))
entered_is (suc k) (b ∷ bs) (suc n) = entered_is k bs n ∙ ap (λ c. c || get_or bs n false) (sym (eqb-suc-suc k n))

swapped : (a b c : Bool) → (a || (b || c)) ≡ ((b || a) || c)
swapped true true c = refl
swapped true false c = refl
swapped false true c = refl
swapped false false c = refl

with_is : (ks : List ℕ) (bs : List Bool) (n : ℕ) → get_or (table_with ks bs) n false ≡ (list_any (λ j. nat_eq j n) ks || get_or bs n false)
unfolding table_with
with_is [] bs n = refl
with_is (k ∷ ks) bs n =
    with_is ks (entered k bs) n
    ∙ ap (λ b. list_any (λ j. nat_eq j n) ks || b) (entered_is k bs n)
    ∙ swapped (list_any (λ j. nat_eq j n) ks) (nat_eq k n) (get_or bs n false)

-- ---- where anything was, the table isn't empty
some_entered : (k : ℕ) (bs : List Bool) → 0 < length (entered k bs)
unfolding entered
some_entered zero [] = omega arith
some_entered zero (b ∷ bs) = omega arith
some_entered (suc k) [] = omega arith
some_entered (suc k) (b ∷ bs) = omega arith

some_with : (ks : List ℕ) (bs : List Bool) → 0 < length bs → 0 < length (table_with ks bs)
unfolding table_with
some_with [] bs h = h
some_with (k ∷ ks) bs h = some_with ks (entered k bs) (some_entered k bs)

begins_of_some : (n : ℕ) (bs : List Bool) → 0 < length bs → may_begin n bs ≡ get_or bs n false
begins_of_some n [] h = absurd (omega (arith, h))
begins_of_some n (b ∷ bs) h = refl

none_besides : (b : Bool) → (b || false) ≡ b
none_besides true = refl
none_besides false = refl

pub any_entered : (n k : ℕ) (ks : List ℕ) → may_begin n (table_with (k ∷ ks) []) ≡ list_any (λ j. nat_eq j n) (k ∷ ks)
unfolding table_with
any_entered n k ks =
    begins_of_some n (table_with ks (entered k [])) (some_with ks (entered k []) (some_entered k []))
    ∙ with_is (k ∷ ks) [] n
    ∙ none_besides (list_any (λ j. nat_eq j n) (k ∷ ks))

-- ---- how it grows
pub entered_longer : (n : ℕ) (bs : List Bool) → length bs ≤ n → entered n (bs ++ false ∷ []) ≡ entered n bs
unfolding entered
entered_longer zero [] h = refl
entered_longer zero (b ∷ bs) h = absurd (omega (arith, h))
entered_longer (suc n) [] h = refl
entered_longer (suc n) (b ∷ bs) h = ap (λ l. b ∷ l) (entered_longer n bs (omega (arith, h)))

pub entered_within : (n : ℕ) (bs : List Bool) → n < length bs → slice_set bs n true ≡ entered n bs
unfolding entered
entered_within zero [] h = absurd (omega (arith, h))
entered_within zero (b ∷ bs) h = refl
entered_within (suc n) [] h = absurd (omega (arith, h))
entered_within (suc n) (b ∷ bs) h = ap (λ l. b ∷ l) (entered_within n bs (omega (arith, h)))
