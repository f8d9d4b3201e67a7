-- Texts compared byte by byte.
use Rattle.std.proofs.Common.{◌≡◌, ℕ, List, Bool, true, false, bytes_eq, refl, sym, ◌∙◌}
use Rattle.std.proofs.lemmas.Slice.Eq.{bytes_eq-Decides}
use Rattle.basics.specs.Booleans.{same_test}

pub bytes_eq-self : (x : List ℕ) → bytes_eq x x ≡ true
bytes_eq-self x = (bytes_eq-Decides x x).1 refl

pub bytes_eq-true : (x y : List ℕ) → bytes_eq x y ≡ true → x ≡ y
bytes_eq-true x y = (bytes_eq-Decides x y).0

pub bytes_eq_comm : (x y : List ℕ) → bytes_eq x y ≡ bytes_eq y x
bytes_eq_comm x y = same_test (bytes_eq x y) (bytes_eq y x) (λ h. (bytes_eq-Decides y x).1 (sym (bytes_eq-true x y h))) (λ h. (bytes_eq-Decides x y).1 (sym (bytes_eq-true y x h)))

pub bytes_eq-false_comm : (x y : List ℕ) → bytes_eq x y ≡ false → bytes_eq y x ≡ false
bytes_eq-false_comm x y h = bytes_eq_comm y x ∙ h

pub bytes_ne : (x y : List ℕ) → (x ≡ y → ⊥) → bytes_eq x y ≡ false
bytes_ne x y h = by_answer (bytes_eq x y) refl
  where
    by_answer : (b : Bool) → bytes_eq x y ≡ b → b ≡ false
    by_answer true e = absurd (h (bytes_eq-true x y e))
    by_answer false e = refl
