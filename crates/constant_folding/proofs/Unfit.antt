-- The first given value that no open constant takes is the first misfit, unless that is a constant that isn't given.
use Rattle.std.proofs.Common.{◌≡◌, ℕ, suc, ◌+◌, ◌<◌, List, [], ◌∷◌, length, Bool, true, false, not, cond, ◌||◌, Some, None, nat_lt, ap, refl, arith, lt-ltb, if◌then◌else◌}
use Rattle.std.specs.List.{list_any, position_or_len}
use Rattle.std.proofs.lemmas.Bool.Decides.{nat_tests}
use Rattle.process_core.specs.declared.data.Given.{Given}
use Rattle.instance_start.specs.Description.{Constant}
use Rattle.instance_start.specs.Given.{fits, is_missing, misfit}
use Rattle.constant_folding.specs.Unfit.{place_within, unfit}

place_of_any : {A : Type 0} (p : A → Bool) (xs : List A) → list_any p xs ≡ true → position_or_len p xs < length xs
place_of_any p [] h = absurd cc
place_of_any {A = A} p (x ∷ xs) h = by_test (p x) (place_of_any p xs) h
  where
    by_test : (b : Bool) → (list_any p xs ≡ true → position_or_len p xs < length xs) → (b || list_any p xs) ≡ true → cond (not b) (1 + position_or_len p xs) 0 < suc (length xs)
    by_test true k h = omega arith
    by_test false k h = let l = k h in omega (arith, l)

not_below : (n : ℕ) → nat_lt n n ≡ false
not_below n = grind (arith, nat_tests)

by_cases : (any some : Bool) (p n : ℕ) → (any ≡ true → p < n) → place_within (if any then Some p else (if some then Some n else None)) n ≡ (if any then Some p else None)
by_cases true some p n h = ap (λ b. if b then Some p else None) (lt-ltb p n (h refl))
by_cases false true p n h = ap (λ b. if b then Some n else None) (not_below n)
by_cases false false p n h = refl

pub unfit_within : (cs : List Constant) (gs : List Given) → place_within (misfit cs gs) (length gs) ≡ unfit cs gs
unfit_within cs gs =
    by_cases (list_any (λ g. not (fits cs g)) gs) (list_any (is_missing gs) cs) (position_or_len (λ g. not (fits cs g)) gs) (length gs) (place_of_any (λ g. not (fits cs g)) gs)
