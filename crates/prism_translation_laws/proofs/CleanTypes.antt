-- Names that a JANI file without fault declares differ.
use Rattle.std.specs.Prelude.{◌≡◌, List, [], ◌∷◌, max, false, bytes_eq}
use Rattle.std.specs.List.{flat_map, AllByRecursion as Each}
use Rattle.basics.specs.Lists.{append_parts}
use Rattle.basics.specs.Each.{each_then, each_with, empty_each, each_unit}
use Rattle.bridge_io.specs.declared.reason.Named.{Named}
use Rattle.bridge_io.specs.declared.reason.Reason.{Reason}
use Rattle.name_rules.proofs.Plain.{no_fault}
use Rattle.jani_check.specs.NameFaults.{clash, doubled_after}

-- ---- names that differ
abbrev pub Differs : Named → Named → Type 0
Differs m n = bytes_eq m.name n.name ≡ false

-- each name differs from those after it
abbrev pub AreApart : List Named → Type 0
AreApart [] = Unit {0}
AreApart (n ∷ ns) = Each (Differs n) ns × AreApart ns

-- each of these differs from the earlier ones
pub after_differ : (reason : Reason) (earlier ns : List Named) → doubled_after reason earlier ns ≡ [] → Each (λ m. Each (Differs m) ns) earlier
after_differ reason earlier [] e = each_then (λ m. Unit {0}) (λ m. Each (Differs m) []) (λ m u. tt) earlier (each_unit earlier)
after_differ reason earlier (n ∷ ns) e =
    let r = append_parts (flat_map (clash reason n) earlier) (doubled_after reason (n ∷ earlier) ns) e in
    each_with (λ m. clash reason n m ≡ []) (λ m. Each (Differs m) ns) (λ m. Each (Differs m) (n ∷ ns))
    (λ m c d. (no_fault (bytes_eq m.name n.name) (max m.at n.at) reason c, d)) earlier
    (empty_each (clash reason n) earlier r.0) (after_differ reason (n ∷ earlier) ns r.1).1

pub after_apart : (reason : Reason) (earlier ns : List Named) → doubled_after reason earlier ns ≡ [] → AreApart ns
after_apart reason earlier [] e = tt
after_apart reason earlier (n ∷ ns) e =
    let r = append_parts (flat_map (clash reason n) earlier) (doubled_after reason (n ∷ earlier) ns) e in
    ((after_differ reason (n ∷ earlier) ns r.1).0, after_apart reason (n ∷ earlier) ns r.1)
