-- One fault where a test holds; names of a list as their bytes; names that stand once have no fault.
use Rattle.std.specs.Prelude.{◌≡◌, ℕ, max, List, [], ◌∷◌, map, Bool, true, false, ◌||◌, bytes_eq}
use Rattle.std.specs.List.{flat_map, list_any, AllByRecursion as Each}
use Rattle.std.proofs.Common.{refl, ap, subst}
use Rattle.basics.specs.Lists.{append_both}
use Rattle.basics.specs.Each.{each_then, each_with, map_each, each_empty}
use Rattle.bridge_io.specs.declared.reason.Named.{Named}
use Rattle.bridge_io.specs.declared.reason.Reason.{Reason}
use Rattle.bridge_io.specs.declared.reason.Fault.{Fault}
use Rattle.name_rules.specs.Least.{fault_if, IsAmong, IsLeast}
use Rattle.name_rules.specs.Names.{Name, is_among}
use Rattle.name_rules.specs.Doubled.{clash, doubled_after, doubled}

pub no_fault : (b : Bool) (at : ℕ) (r : Reason) → fault_if b at r ≡ [] → b ≡ false
no_fault true at r e = absurd cc
no_fault false at r e = refl

pub fault_none : (b : Bool) (at : ℕ) (r : Reason) → b ≡ false → fault_if b at r ≡ []
fault_none b at r e = ap (λ t. fault_if t at r) e

-- where there are no faults, none is the least
pub no_least : (fs : List Fault) (f : Fault) → fs ≡ [] → IsLeast fs f → ⊥
no_least fs f e l = subst (IsAmong f) e l.among

pub among_names : (ns : List Named) (x : Name) → is_among ns x ≡ list_any (λ y. bytes_eq y x) (map (λ n. n.name) ns)
among_names [] x = refl
among_names (n ∷ ns) x = ap (λ b. bytes_eq n.name x || b) (among_names ns x)

-- ---- names that stand once
abbrev pub Apart : List Name → Type 0
Apart [] = Unit {0}
Apart (x ∷ xs) = Each (λ y. bytes_eq x y ≡ false) xs × Apart xs

not_doubled_after : (r : Reason) (earlier ns : List Named) → Each (λ n. Each (λ m. bytes_eq m.name n.name ≡ false) earlier) ns → Apart (map (λ n. n.name) ns) →
    doubled_after r earlier ns ≡ []
not_doubled_after r earlier [] h a = refl
not_doubled_after r earlier (n ∷ ns) h a =
    append_both (flat_map (clash r n) earlier) (doubled_after r (n ∷ earlier) ns)
    (each_empty (clash r n) earlier
    (each_then (λ m. bytes_eq m.name n.name ≡ false) (λ m. clash r n m ≡ []) (λ m e. fault_none (bytes_eq m.name n.name) (max m.at n.at) r e) earlier h.0))
    (not_doubled_after r (n ∷ earlier) ns
    (each_with (λ m. bytes_eq n.name m.name ≡ false) (λ m. Each (λ k. bytes_eq k.name m.name ≡ false) earlier) (λ m. Each (λ k. bytes_eq k.name m.name ≡ false) (n ∷ earlier))
    (λ m p q. (p, q)) ns (map_each (λ y. bytes_eq n.name y ≡ false) (λ m. m.name) ns a.0) h.1) a.1)

no_earlier : (ns : List Named) → Each (λ n. Each {X = Named} (λ m. bytes_eq m.name n.name ≡ false) []) ns
no_earlier [] = tt
no_earlier (n ∷ ns) = (tt, no_earlier ns)

pub not_doubled : (r : Reason) (ns : List Named) → Apart (map (λ n. n.name) ns) → doubled r ns ≡ []
not_doubled r ns a = not_doubled_after r [] ns (no_earlier ns) a
