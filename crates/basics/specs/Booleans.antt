-- Truth values. `Bool` of std's lemmas has both parts of an `&&` or `||` at once, and what makes one true or false.
use Rattle.std.proofs.Common.{◌≡◌, Bool, true, false, not, ◌&&◌, ◌||◌, refl, sym, ◌∙◌}

pub first_true : (a b : Bool) → (a && b) ≡ true → a ≡ true
first_true true b e = refl
first_true false b e = e

pub second_true : (a b : Bool) → (a && b) ≡ true → b ≡ true
second_true true b e = e
second_true false b e = absurd cc

pub first_false : (a b : Bool) → (a || b) ≡ false → a ≡ false
first_false true b e = e
first_false false b e = refl

pub second_false : (a b : Bool) → (a || b) ≡ false → b ≡ false
second_false true b e = absurd cc
second_false false b e = e

pub both_true : (a b : Bool) → not (a && b) ≡ false → (a ≡ true) × (b ≡ true)
both_true true true h = (refl, refl)
both_true true false h = absurd cc
both_true false b h = absurd cc

pub not_both : {A : Type 0} (b : Bool) → b ≡ true → b ≡ false → A
not_both b h k = let e : true ≡ false = sym h ∙ k in absurd cc

pub both_not : (a b : Bool) → a ≡ false → b ≡ false → (not a && not b) ≡ true
both_not true b h k = absurd cc
both_not false true h k = absurd cc
both_not false false h k = refl

pub or_none : (b : Bool) → b ≡ (b || false)
or_none true = refl
or_none false = refl

pub or_exchange : (a b c d : Bool) → ((a || b) || (c || d)) ≡ ((a || c) || (b || d))
or_exchange true b c d = refl
or_exchange false true true d = refl
or_exchange false true false d = refl
or_exchange false false c d = refl

-- tests that follow from each other are the same
pub same_test : (a b : Bool) → (a ≡ true → b ≡ true) → (b ≡ true → a ≡ true) → a ≡ b
same_test true b h k = sym (h refl)
same_test false true h k = k refl
same_test false false h k = refl
