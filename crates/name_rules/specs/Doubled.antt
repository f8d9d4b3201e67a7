-- Names that stand twice in a list.
use Rattle.std.specs.Prelude.{◌≡◌, ℕ, max, min, List, [], ◌∷◌, ◌++◌, Option, Some, None, bytes_eq, if◌then◌else◌}
use Rattle.std.specs.List.{flat_map}
use Rattle.bridge_io.specs.declared.reason.Named.{Named}
use Rattle.bridge_io.specs.declared.reason.Reason.{Reason}
use Rattle.bridge_io.specs.declared.reason.Fault.{Fault}
use Rattle.name_rules.specs.Least.{fault, fault_if, sooner}
use Rattle.name_rules.specs.Names.{Name, under}
use Rattle.name_rules.specs.declared.doubled.Lowest.{Lowest}

-- the later of a name and an earlier one in the list that is the same, wherever they stand
abbrev pub clash : Reason → Named → Named → List Fault
clash reason n m = fault_if (bytes_eq m.name n.name) (max m.at n.at) reason

-- of each two names that are the same the later, by offset
abbrev pub doubled_after : Reason → List Named → List Named → List Fault
doubled_after reason earlier [] = []
doubled_after reason earlier (n ∷ ns) = flat_map (clash reason n) earlier ++ doubled_after reason (n ∷ earlier) ns

abbrev pub doubled : Reason → List Named → List Fault
doubled reason ns = doubled_after reason [] ns

-- ---- the lowest offset of each name
abbrev pub lower : Option ℕ → ℕ → ℕ
lower None at = at
lower (Some before) at = min at before

abbrev pub lowest_of : Name → List Named → Option ℕ
lowest_of x [] = None
lowest_of x (m ∷ ms) = if bytes_eq m.name x then Some (lower (lowest_of x ms) m.at) else lowest_of x ms

abbrev pub lowest_under : Lowest → Name → Option ℕ
lowest_under l x = under l.offsets x

-- a table of the lowest offsets of these names
abbrev pub IsLowest : Lowest → List Named → Type 0
IsLowest l ns = (x : Name) → lowest_under l x ≡ lowest_of x ns

-- a name, judged by the lowest offset of those before it that are the same
abbrev pub by_lowest : Reason → Option Fault → Option ℕ → ℕ → Option Fault
by_lowest reason best None at = best
by_lowest reason best (Some low) at = sooner best (fault (max at low) reason)
