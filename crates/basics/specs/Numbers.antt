-- Tests of natural numbers.
use Rattle.std.proofs.Common.{◌≡◌, ℕ, suc, nat_eq, nat_lt, true, sym, refl, arith, eq-eqb, eqb-true, ltb-true, lt-ltb}
use Rattle.basics.specs.Booleans.{same_test}

pub nat_eq-self : (n : ℕ) → nat_eq n n ≡ true
nat_eq-self n = eq-eqb n n refl

pub nat_eq_comm : (a b : ℕ) → nat_eq a b ≡ nat_eq b a
nat_eq_comm a b = same_test (nat_eq a b) (nat_eq b a) (λ h. eq-eqb b a (sym (eqb-true a b h))) (λ h. eq-eqb a b (sym (eqb-true b a h)))

pub nat_lt-suc : (n m : ℕ) → nat_lt (suc n) (suc m) ≡ nat_lt n m
nat_lt-suc n m = same_test (nat_lt (suc n) (suc m)) (nat_lt n m)
    (λ h. lt-ltb n m (let l = ltb-true (suc n) (suc m) h in omega arith))
    (λ h. lt-ltb (suc n) (suc m) (let l = ltb-true n m h in omega arith))
