-- What stands under names.
use Rattle.std.proofs.Common.{◌≡◌, ◌+◌, ℕ, Bool, true, false, arith, cond, not, Option, Some, None, if◌then◌else◌, refl}
use Rattle.std.specs.Prelude.{unwrap_or}
use Rattle.std.specs.Option.{option_or}
use Rattle.instance_start.specs.declared.data.Place.{Place}

-- one name more
pub place_more : (old : Option Place) (b : Bool) (p : Place) (rest : Option Place) → option_or (option_or old (if b then Some p else None)) rest ≡ option_or old (if b then Some p else rest)
place_more None true p rest = refl
place_more None false p rest = refl
place_more (Some q) b p rest = refl

-- a number that is put under one name more, if none stands there, where others stand behind
pub number_more : (old : Option ℕ) (b : Bool) (k p : ℕ) → unwrap_or (option_or old (if b then Some k else None)) (k + 1 + p) ≡ unwrap_or old (k + cond (not b) (1 + p) 0)
number_more (Some q) b k p = refl
number_more None true k p = let e : k ≡ k + 0 = omega arith in e
number_more None false k p = let e : k + 1 + p ≡ k + (1 + p) = omega arith in e
