-- Names in properties, as the code takes them apart.
use Rattle.std.proofs.Common.{◌≡◌, refl, sym, ap, arith, [], ◌∷◌, Option, Some, None, Bool, true, false}
use Rattle.std.specs.Prelude.{◌≢◌, MatchOption, option_copied, nat_eq, bytes_eq, if◌then◌else◌}
use Rattle.std.specs.Borrow.{Bor}
use Rattle.std.proofs.lemmas.Bool.Decides.{nat_tests}
use Rattle.prop_trees.specs.Trees.{Name}
use Rattle.prop_trees.specs.Names.{of_model, is_initial, is_deadlock, nothing, built_in, meant, initial_name, deadlock_name}
use Rattle.prop_to_jani.specs.Code.{model_part}

pub built_in_none : (x : Name) → model_part (built_in x) ≡ None
built_in_none x = by_test (bytes_eq x initial_name) (bytes_eq x deadlock_name)
  where
    by_test : (b c : Bool) → model_part (if b then is_initial else if c then is_deadlock else nothing) ≡ None
    by_test true c = refl
    by_test false true = refl
    by_test false false = refl

-- what is behind a point is the name of the model
pub model_stripped : (x : Name) (r : Option (Bor Name)) → MatchOption r ((rest : Name) → x ≢ 46 ∷ rest) (λ y. x ≡ 46 ∷ y.now) → option_copied r ≡ model_part (meant x)
model_stripped x (Some y) h = sym (ap (λ (z : Name). model_part (meant z)) h)
model_stripped [] None h = refl
model_stripped (b ∷ x) None h = by_test (nat_eq b 46) refl
  where
    by_test : (t : Bool) → nat_eq b 46 ≡ t → None ≡ model_part (if t then of_model x else built_in (b ∷ x))
    by_test true e = let s : b ≡ 46 = grind (arith, nat_tests, e) in absurd (h x (ap (λ n. n ∷ x) s))
    by_test false e = sym (built_in_none (b ∷ x))
