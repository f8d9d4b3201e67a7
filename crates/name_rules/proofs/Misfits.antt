-- Faults of wrong types at some offsets: the least is that at the least offset.
use Rattle.std.specs.Prelude.{ℕ, ◌≤◌, List, [], ◌∷◌, map, Option, All, Contains, min, ◌⊎◌}
use Rattle.std.proofs.Common.{◌≡◌, ap, ◌∙◌, arith, inl, inr}
use Rattle.std.proofs.lemmas.List.Elements.{All-head, All-tail}
use Rattle.std.proofs.lemmas.Map.Made.{Contains-tail}
use native.Mathlib.Decide.{ℕ_discrete}
use Rattle.bridge_io.specs.declared.reason.Reason.TheVariants.{WrongType}
use Rattle.bridge_io.specs.declared.reason.Fault.{Fault}
use Rattle.op_trees.specs.Types.{IsLeast}
use Rattle.name_rules.specs.Least.{sooner, soonest, fault}
use Rattle.name_rules.proofs.Soonest.{sooner_twice}

from_one : (n m : ℕ) (ms : List ℕ) (best : Option Fault) → n ≤ m → All (λ i. n ≤ i) ms → (m ≡ n) ⊎ Contains ms n →
    soonest (sooner best (fault m WrongType)) (map (λ at. fault at WrongType) ms) ≡ sooner best (fault n WrongType)
from_one n m [] best h a o = elim o [ inl e ↦ ap (λ k. sooner best (fault k WrongType)) e | inr k ↦ absurd (omega (arith, k.1)) ]
from_one n m (x ∷ xs) best h a o =
    let low : n ≤ x = All-head (λ i. n ≤ i) x xs a in
    ap (λ b. soonest b (map (λ at. fault at WrongType) xs)) (sooner_twice best m x WrongType)
    ∙ from_one n (min x m) xs best (omega (arith, h, low)) (All-tail (λ i. n ≤ i) x xs a) (here low (ℕ_discrete x n) o)
  where
    here : n ≤ x → Dec (x ≡ n) → (m ≡ n) ⊎ Contains (x ∷ xs) n → (min x m ≡ n) ⊎ Contains xs n
    here low (yes e) o = inl (omega (arith, e, h))
    here low (no ne) (inl e) = inl (omega (arith, e, low))
    here low (no ne) (inr k) = inr (Contains-tail x xs n ne k)

pub at_least : (n : ℕ) (ms : List ℕ) (best : Option Fault) → IsLeast n ms → soonest best (map (λ at. fault at WrongType) ms) ≡ sooner best (fault n WrongType)
at_least n [] best l = absurd (omega (arith, l.stands.1))
at_least n (m ∷ ms) best l = from_one n m ms best (All-head (λ i. n ≤ i) m ms l.least) (All-tail (λ i. n ≤ i) m ms l.least) (here (ℕ_discrete m n))
  where
    here : Dec (m ≡ n) → (m ≡ n) ⊎ Contains ms n
    here (yes e) = inl e
    here (no ne) = inr (Contains-tail m ms n ne l.stands)
