-- Where nothing that is declared depends on itself, there is an order in which each stands behind what it uses.
use Rattle.std.proofs.Common.{◌≡◌, ℕ, zero, suc, ◌+◌, ◌-◌, ◌<◌, ◌≤◌, List, [], ◌∷◌, ◌++◌, length, Bool, true, false, nat_eq, nat_lt, refl, sym, ap, ◌∙◌, subst, arith, inl, inr}
use Rattle.std.specs.Prelude.{◌⊎◌, set, replicate}
use Rattle.std.proofs.lemmas.Bool.Decides.{nat_tests}
use Rattle.op_trees.specs.Names.{is_called}
use Rattle.name_rules.specs.Names.{Name}
use Rattle.name_rules.specs.Circles.{Declared, declared_at, circles, AreTurns}
use Rattle.name_rules.specs.Rounds.{is_placed, one_if, waiting, is_blocked, open_from, IsPlacing}
use Rattle.name_rules.proofs.Leads.{called_same}
use Rattle.name_rules.proofs.Placed.{fewer_left, placing_more, placing_none, open_less}
use Rattle.name_rules.proofs.Ordered.{all_turned}

-- one that is left and that nothing blocks
record IsFree (ds : List Declared) (left : Name → ℕ) (placed : List Bool) (i : ℕ) : Type 0 where
  within : i < length ds
  out : is_placed placed i ≡ false
  clear : is_blocked left (declared_at ds i) ≡ false

module _ (ds : List Declared) where
  -- none of the first ones is
  abbrev NoneFree : (Name → ℕ) → List Bool → ℕ → Type 0
  NoneFree left placed n = (i : ℕ) → i < n → i < length ds → is_placed placed i ≡ false → is_blocked left (declared_at ds i) ≡ true

  free_or_stuck : (left : Name → ℕ) (placed : List Bool) (n : ℕ) → ((i : ℕ) × IsFree ds left placed i) ⊎ NoneFree left placed n
  free_or_stuck left placed zero = inr (λ i l k o. absurd (omega (arith, l)))
  free_or_stuck left placed (suc n) = by_last (nat_lt n (length ds)) (is_placed placed n) (is_blocked left (declared_at ds n)) refl refl refl (free_or_stuck left placed n)
    where
      last : NoneFree left placed n → (n < length ds → is_placed placed n ≡ false → is_blocked left (declared_at ds n) ≡ true) → NoneFree left placed (suc n)
      last before this i l k o = by_test (nat_eq i n) refl
        where
          by_test : (b : Bool) → nat_eq i n ≡ b → is_blocked left (declared_at ds i) ≡ true
          by_test true e =
              let same : n ≡ i = grind (arith, nat_tests) in
              subst (λ j. j < length ds → is_placed placed j ≡ false → is_blocked left (declared_at ds j) ≡ true) same this k o
          by_test false e = let less : i < n = grind (arith, nat_tests) in before i less k o

      by_last : (a b c : Bool) → nat_lt n (length ds) ≡ a → is_placed placed n ≡ b → is_blocked left (declared_at ds n) ≡ c → ((i : ℕ) × IsFree ds left placed i) ⊎ NoneFree left placed n →
          ((i : ℕ) × IsFree ds left placed i) ⊎ NoneFree left placed (suc n)
      by_last a b c e f g (inl found) = inl found
      by_last false b c e f g (inr before) = inr (last before (λ l o. absurd (let none : ⊥ = grind (arith, nat_tests) in none)))
      by_last true true c e f g (inr before) = inr (last before (λ l o. absurd (let z : true ≡ false = sym f ∙ o in cc)))
      by_last true false true e f g (inr before) = inr (last before (λ l o. g))
      by_last true false false e f g (inr before) = inl (n, record { within = grind (arith, nat_tests); out = f; clear = g })

  -- one of this name less
  abbrev fewer : (Name → ℕ) → Declared → Name → ℕ
  fewer left d x = left x - one_if (is_called x d.name)

  fewer_is : (left : Name → ℕ) (d : Declared) → 0 < left d.name.name → (x : Name) → left x ≡ one_if (is_called x d.name) + fewer left d x
  fewer_is left d some x = by_test (is_called x d.name) refl
    where
      by_test : (b : Bool) → is_called x d.name ≡ b → left x ≡ one_if b + (left x - one_if b)
      by_test true e = let same : left d.name.name ≡ left x = ap left (called_same d x e) in omega (arith, same, some)
      by_test false e = omega arith

  module _ (none : circles ds ≡ []) where
    -- from a placing on, where so many are left at most
    turns_behind : (k : ℕ) (left : Name → ℕ) (placed : List Bool) (turns : List ℕ) → IsPlacing ds left placed turns → open_from 0 placed ≤ k → (all : List ℕ) × AreTurns ds all
    turns_behind zero left placed turns h few = by_search (free_or_stuck left placed (length ds))
      where
        by_search : ((i : ℕ) × IsFree ds left placed i) ⊎ NoneFree left placed (length ds) → (all : List ℕ) × AreTurns ds all
        by_search (inr stuck) = (turns, all_turned ds left placed turns h (λ i l o. stuck i l l o) none)
        by_search (inl (i, f)) =
            let s = h.size in
            let w = f.within in
            let less = open_less placed i (omega (arith, s, w)) f.out in
            absurd (omega (arith, few, less))
    turns_behind (suc k) left placed turns h few = by_search (turns_behind k) (free_or_stuck left placed (length ds))
      where
        by_search : ((rest : Name → ℕ) (more : List Bool) (ts : List ℕ) → IsPlacing ds rest more ts → open_from 0 more ≤ k → (all : List ℕ) × AreTurns ds all) →
            ((i : ℕ) × IsFree ds left placed i) ⊎ NoneFree left placed (length ds) → (all : List ℕ) × AreTurns ds all
        by_search ih (inr stuck) = (turns, all_turned ds left placed turns h (λ i l o. stuck i l l o) none)
        by_search ih (inl (i, f)) =
            let s = h.size in
            let w = f.within in
            let less = open_less placed i (omega (arith, s, w)) f.out in
            let some = fewer_left ds left placed turns h i f.within f.out f.clear in
            ih (fewer left (declared_at ds i)) (set placed i true) (turns ++ i ∷ [])
            (placing_more ds left placed turns h i f.within f.out f.clear (fewer left (declared_at ds i)) (fewer_is left (declared_at ds i) some))
            (omega (arith, few, less))

    pub all_in_turn : (all : List ℕ) × AreTurns ds all
    all_in_turn = turns_behind (open_from 0 (replicate (length ds) false)) (waiting ds []) (replicate (length ds) false) [] (placing_none ds (waiting ds []) (λ x. refl)) (omega arith)
