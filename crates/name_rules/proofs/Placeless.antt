-- The faults of names without their places are their faults without theirs.
use Rattle.std.specs.Prelude.{◌≡◌, ℕ, max, List, [], ◌∷◌, map, Bool, true, false, not, bytes_eq}
use Rattle.std.specs.List.{flat_map}
use Rattle.std.proofs.Common.{refl, ap, ap₂, ◌∙◌}
use Rattle.std.proofs.Math.Path.{fun_ext}
use Rattle.basics.specs.Mapped.{any_mapped, joined, gathered}
use Rattle.bridge_io.specs.declared.reason.Named.{Named}
use Rattle.bridge_io.specs.declared.reason.Reason.{Reason}
use Rattle.bridge_io.specs.declared.reason.Reason.TheVariants.{Unknown}
use Rattle.bridge_io.specs.declared.reason.Fault.{Fault}
use Rattle.op_trees.specs.Names.{bare_name, is_called}
use Rattle.name_rules.specs.Least.{fault_if, or_else}
use Rattle.name_rules.specs.Names.{Name, is_among}
use Rattle.name_rules.specs.Doubled.{clash, doubled_after, doubled}
use Rattle.name_rules.specs.Unknown.{unless_known}

abbrev pub placeless : Fault → Fault
placeless f = record { reason = f.reason; at = 0 }

pub at_nought : (b : Bool) (at : ℕ) (r : Reason) → fault_if b 0 r ≡ map placeless (fault_if b at r)
at_nought true at r = refl
at_nought false at r = refl

-- a fault that comes where another test holds, which is the same
pub tested : (b c : Bool) (at : ℕ) (r : Reason) → b ≡ c → fault_if b 0 r ≡ map placeless (fault_if c at r)
tested b c at r e = ap (λ x. fault_if x 0 r) e ∙ at_nought c at r

-- those of the first kind that there are any of
pub first-bare : (us vs xs ys : List Fault) → us ≡ map placeless xs → vs ≡ map placeless ys → or_else us vs ≡ map placeless (or_else xs ys)
first-bare us vs xs ys e h = ap₂ or_else e h ∙ of_first xs
  where
    of_first : (xs : List Fault) → or_else (map placeless xs) (map placeless ys) ≡ map placeless (or_else xs ys)
    of_first [] = refl
    of_first (x ∷ xs) = refl

-- ---- names that are declared twice
pub after-bare : (r : Reason) (earlier ns : List Named) → doubled_after r (map bare_name earlier) (map bare_name ns) ≡ map placeless (doubled_after r earlier ns)
after-bare r earlier [] = refl
after-bare r earlier (n ∷ ns) =
    joined placeless (flat_map (clash r (bare_name n)) (map bare_name earlier)) (doubled_after r (map bare_name (n ∷ earlier)) (map bare_name ns)) (flat_map (clash r n) earlier) (doubled_after r (n ∷ earlier) ns)
    (gathered placeless bare_name (clash r (bare_name n)) (clash r n) (λ m. at_nought (bytes_eq m.name n.name) (max m.at n.at) r) earlier)
    (after-bare r (n ∷ earlier) ns)

pub doubled-bare : (r : Reason) (us ns : List Named) → us ≡ map bare_name ns → doubled r us ≡ map placeless (doubled r ns)
doubled-bare r us ns e = ap (doubled r) e ∙ after-bare r [] ns

-- ---- names that are not declared
pub among-bare : (us ns : List Named) → us ≡ map bare_name ns → is_among us ≡ is_among ns
among-bare us ns e = ap is_among e ∙ fun_ext (λ x. any_mapped bare_name (is_called x) (is_called x) (λ n. refl) ns)

pub unknown-bare : (known : Name → Bool) (us ns : List Named) → us ≡ map bare_name ns → flat_map (unless_known known) us ≡ map placeless (flat_map (unless_known known) ns)
unknown-bare known us ns e =
    ap (flat_map (unless_known known)) e
    ∙ gathered placeless bare_name (unless_known known) (unless_known known) (λ n. at_nought (not (known n.name)) n.at Unknown) ns
