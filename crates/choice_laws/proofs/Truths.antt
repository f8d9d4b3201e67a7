-- Laws of truth values, and of the test whether two numbers are the same.
use Rattle.std.specs.Prelude.{◌≡◌, Bool, true, false, ◌&&◌, ◌||◌}
use Rattle.std.proofs.Common.{refl}

pub and_or : (a b c : Bool) → ((a && c) || (b && c)) ≡ ((a || b) && c)
and_or true true true = refl
and_or true true false = refl
and_or true false true = refl
and_or true false false = refl
and_or false b c = refl

-- the middle one first
pub and_turned : (a b c : Bool) → ((a && b) && c) ≡ (b && (a && c))
and_turned true true c = refl
and_turned true false c = refl
and_turned false true c = refl
and_turned false false c = refl

-- the last one earlier
pub and_moved : (a b c : Bool) → ((a && b) && c) ≡ ((a && c) && b)
and_moved true true true = refl
and_moved true true false = refl
and_moved true false true = refl
and_moved true false false = refl
and_moved false b c = refl
