-- What names in properties are.
use Rattle.std.proofs.Common.{◌≡◌, refl, ap, ◌∙◌, [], ◌∷◌, Option, Some, None, Bool, true, false, if◌then◌else◌, arith}
use Rattle.std.specs.Prelude.{bytes_eq, nat_eq, MatchOption}
use Rattle.std.specs.Borrow.{Bor}
use Rattle.std.proofs.lemmas.Bool.Decides.{nat_tests}
use Rattle.jani_check.specs.declared.things.Thing.{Thing}
use Rattle.prop_trees.specs.Trees.{Name}
use Rattle.prop_trees.specs.Names.{of_model, is_initial, is_deadlock, nothing, meant, built_in, initial_name, deadlock_name}
use Rattle.jani_props.specs.Faults.{meaning, meaning_by, built_in_by}

meant_plain : (x : Name) → ((rest : Name) → x ≡ 46 ∷ rest → ⊥) → meant x ≡ built_in x
meant_plain [] h = refl
meant_plain (b ∷ x) h = by_point (nat_eq b 46) refl
  where
    by_point : (c : Bool) → nat_eq b 46 ≡ c → (if c then of_model x else built_in (b ∷ x)) ≡ built_in (b ∷ x)
    by_point true e = let point : b ≡ 46 = grind (arith, nat_tests) in absurd (h x (ap (λ c. c ∷ x) point))
    by_point false e = refl

built_meaning : (things : Name → Option Thing) (x : Name) → meaning_by things (built_in x) ≡ built_in_by (built_in x)
built_meaning things x = by_tests (bytes_eq x initial_name) (bytes_eq x deadlock_name)
  where
    by_tests : (c d : Bool) → meaning_by things (if c then is_initial else if d then is_deadlock else nothing) ≡ built_in_by (if c then is_initial else if d then is_deadlock else nothing)
    by_tests true d = refl
    by_tests false true = refl
    by_tests false false = refl

-- a name that begins with no point
pub plain_meaning : (things : Name → Option Thing) (x : Name) (r : Option (Bor Name)) → MatchOption r ((rest : Name) → x ≡ 46 ∷ rest → ⊥) (λ y. x ≡ 46 ∷ y.now) → r ≡ None →
    meaning things x ≡ built_in_by (built_in x)
plain_meaning things x None m e = ap (meaning_by things) (meant_plain x m) ∙ built_meaning things x
plain_meaning things x (Some y) m e = absurd cc
