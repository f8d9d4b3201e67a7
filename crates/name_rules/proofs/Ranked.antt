-- Declarations whose names fall.
use Rattle.std.specs.Prelude.{ℕ, zero, suc, ◌<◌, ◌≤◌, ◌+◌, List, [], length, map, get_or, Bool, true, false, ◌&&◌, ◌||◌, nat_lt, nat_le, Option, Some, None, bytes_eq}
use Rattle.std.specs.List.{list_any}
use Rattle.std.specs.Borrow.{Bor}
use Rattle.std.proofs.Common.{◌≡◌, refl, sym, ap, ◌∙◌, arith}
use Rattle.std.proofs.lemmas.Bool.Decides.{nat_tests}
use Rattle.std.proofs.lemmas.Slice.Eq.{bytes_eq-Decides}
use Rattle.std.proofs.lemmas.Bool.{and_parts}
use Rattle.name_rules.specs.Names.{Name}
use Rattle.op_trees.specs.Names.{is_called}
use Rattle.name_rules.specs.declared.declarations.Declaration.{Declaration}
use Rattle.name_rules.specs.declared.ranks.Ranks.{Ranks}
use Rattle.name_rules.specs.Circles.{Declared, uses_of, leads_to, is_circular}
use Rattle.name_rules.specs.Circles.{nothing_declared, declared_at, declared_by}
use Rattle.name_rules.specs.Rounds.{some_use, rank_in, AreFalling, UsesLower, FallIn}
use Rattle.name_rules.proofs.Leads.{any_at, all_false, any_stronger, called_same, uses_of_any, leads_by, declared_at_is}
use Rattle.name_rules.proofs.Turns.{next}

module _ (ds : List Declared) (rank : Name → ℕ) (falling : AreFalling ds rank) where
  -- what a name leads to is not above it
  falls : (n : ℕ) (x y : Name) → leads_to ds n x y ≡ true → rank y ≤ rank x
  falls zero x y h = let e = ap rank ((bytes_eq-Decides x y).0 h) in omega (arith, e)
  falls (suc n) x y h = by_test (bytes_eq x y) refl h (falls n)
    where
      by_test : (b : Bool) → bytes_eq x y ≡ b → (b || list_any (leads_by ds n y) (uses_of ds x)) ≡ true →
          ((z t : Name) → leads_to ds n z t ≡ true → rank t ≤ rank z) → rank y ≤ rank x
      by_test true e k ih = let s = ap rank ((bytes_eq-Decides x y).0 e) in omega (arith, s)
      by_test false e k ih =
          let r = any_at (λ d. is_called x d.name && some_use (leads_by ds n y) d) nothing_declared ds (sym (uses_of_any ds (leads_by ds n y) x) ∙ k) in
          let d = declared_at ds r.0 in
          let both = and_parts (is_called x d.name) (some_use (leads_by ds n y) d) r.2 in
          let u = any_at (leads_by ds n y) [] d.uses both.1 in
          let z = get_or d.uses u.0 [] in
          let low : rank y ≤ rank z = ih z y u.2 in
          let not_above = all_false (λ v. nat_lt (rank d.name.name) (rank v)) d.uses (falling r.0 r.1) u.0 [] u.1 in
          let below : rank z ≤ rank d.name.name = grind (arith, nat_tests) in
          let same = ap rank (called_same d x both.0) in
          omega (arith, low, below, same)

  pub apart_is : (d : Declared) → some_use (λ z. nat_le (rank d.name.name) (rank z)) d ≡ false → is_circular ds d ≡ false
  apart_is d h =
      any_stronger (λ z. nat_le (rank d.name.name) (rank z)) (leads_by ds (length ds) d.name.name)
      (λ z t. let k = falls (length ds) z d.name.name t in grind (arith, nat_tests)) d.uses h

pub apart_in : (all : List Declaration) (ranks : Option (Bor Ranks)) (d : Declared) → FallIn all ranks → UsesLower ranks d → is_circular (map declared_by all) d ≡ false
apart_in all None d f u = absurd u
apart_in all (Some r) d f u = apart_is (map declared_by all) (rank_in r.now) f d u

-- one declaration more uses no name above its own
pub falling_more : (all : List Declaration) (rank : Name → ℕ) (n : ℕ) (d : Declaration) (bound : ℕ) → n < length all → d ≡ get_or all n d → bound ≡ rank d.name.now →
    some_use (λ z. nat_lt bound (rank z)) (declared_by d) ≡ false →
    ((i : ℕ) → i < n → some_use (λ z. nat_lt (rank (declared_at (map declared_by all) i).name.name) (rank z)) (declared_at (map declared_by all) i) ≡ false) →
    (i : ℕ) → i < n + 1 → some_use (λ z. nat_lt (rank (declared_at (map declared_by all) i).name.name) (rank z)) (declared_at (map declared_by all) i) ≡ false
falling_more all rank n d bound l is at h before =
    next (λ i. some_use (λ z. nat_lt (rank (declared_at (map declared_by all) i).name.name) (rank z)) (declared_at (map declared_by all) i) ≡ false) n before
    (ap (λ (e : Declared). some_use (λ z. nat_lt (rank e.name.name) (rank z)) e) (sym (declared_at_is all n d l is))
    ∙ ap (λ b. some_use (λ z. nat_lt b (rank z)) (declared_by d)) (sym at) ∙ h)
