-- Where nothing depends on itself, all that is declared has its turn.
use Rattle.std.specs.Prelude.{◌≡◌, ℕ, zero, suc, ◌<◌, List, [], ◌∷◌, length, get_or, Bool, true, false}
use Rattle.std.specs.List.{flat_map}
use Rattle.std.proofs.Common.{refl, sym, ap, ◌∙◌, arith}
use Rattle.basics.specs.Lists.{append_left, append_right}
use Rattle.bridge_io.specs.declared.reason.Reason.TheVariants.{Cycle}
use Rattle.name_rules.specs.Least.{fault_if}
use Rattle.name_rules.specs.Names.{Name}
use Rattle.name_rules.specs.Circles.{Declared, nothing_declared, declared_at, is_circular, circular, circles, AreTurns}
use Rattle.name_rules.specs.Rounds.{IsPlacing, IsStuck}
use Rattle.name_rules.proofs.Walk.{none_left}

-- ---- lists of faults that are empty
no_part : {A B : Type 0} (f : A → List B) (xs : List A) (i : ℕ) (d : A) → flat_map f xs ≡ [] → i < length xs → f (get_or xs i d) ≡ []
no_part f [] i d h l = absurd (omega arith)
no_part f (x ∷ xs) zero d h l = append_left (f x) (flat_map f xs) h
no_part f (x ∷ xs) (suc i) d h l = no_part f xs i d (append_right (f x) (flat_map f xs) h) (omega arith)

in_none : (ds : List Declared) → circles ds ≡ [] → (i : ℕ) → i < length ds → is_circular ds (declared_at ds i) ≡ false
in_none ds h i l = by_test (is_circular ds (declared_at ds i)) refl (no_part (circular ds) ds i nothing_declared h l)
  where
    by_test : (b : Bool) → is_circular ds (declared_at ds i) ≡ b → circular ds (declared_at ds i) ≡ [] → b ≡ false
    by_test true e k = absurd (let one = sym (ap (λ t. fault_if t (declared_at ds i).name.at Cycle) e) ∙ k in cc)
    by_test false e k = refl

pub all_turned : (ds : List Declared) (left : Name → ℕ) (placed : List Bool) (turns : List ℕ) → IsPlacing ds left placed turns → IsStuck ds left placed → circles ds ≡ [] →
    AreTurns ds turns
all_turned ds left placed turns h stuck none = record {
  within = h.within;
  counted = λ c. let k = h.counted c in omega (arith, k);
  turned = λ i l. h.turned i (none_left ds (in_none ds none) left placed h.size h.counts stuck i l);
  order = h.order;
}
