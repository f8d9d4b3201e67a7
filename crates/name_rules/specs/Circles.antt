-- Names that lead round in circles, and an order in which what is declared stands behind what it uses.
use Rattle.std.specs.Prelude.{◌≡◌, ℕ, zero, suc, ◌-◌, ◌<◌, ◌≤◌, List, [], ◌∷◌, ◌++◌, length, map, get_or, Bool, true, bytes_eq, nat_lt, nat_eq, ◌||◌, if◌then◌else◌}
use Rattle.std.specs.List.{All, flat_map, filter, list_any}
use Rattle.bridge_io.specs.declared.reason.Named.{Named}
use Rattle.bridge_io.specs.declared.reason.Reason.TheVariants.{Cycle}
use Rattle.bridge_io.specs.declared.reason.Fault.{Fault}
use Rattle.name_rules.specs.Least.{fault_if}
use Rattle.op_trees.specs.Names.{is_called}
use Rattle.name_rules.specs.Names.{Name}
use Rattle.name_rules.specs.declared.declarations.Declaration.{Declaration}

-- something that is declared, and the names that it uses
pub record Declared : Type 0 where
  pub name : Named
  pub uses : List Name

-- the names that everything uses that is declared under a name
abbrev pub uses_of : List Declared → Name → List Name
uses_of ds x = flat_map (λ d. d.uses) (filter (λ d. is_called x d.name) ds)

-- one name is the other, or leads to it in at most so many steps
abbrev pub leads_to : List Declared → ℕ → Name → Name → Bool
leads_to ds zero x y = bytes_eq x y
leads_to ds (suc n) x y = bytes_eq x y || list_any (λ z. leads_to ds n z y) (uses_of ds x)

-- some name that it uses leads to it
abbrev pub is_circular : List Declared → Declared → Bool
is_circular ds d = list_any (λ x. leads_to ds (length ds) x d.name.name) d.uses

abbrev pub circular : List Declared → Declared → List Fault
circular ds d = fault_if (is_circular ds d) d.name.at Cycle

-- all that depends on itself
abbrev pub circles : List Declared → List Fault
circles ds = flat_map (circular ds) ds

abbrev pub declared_by : Declaration → Declared
declared_by d = record { name = record { name = d.name.now; at = d.at }; uses = map (λ s. s.now) d.uses.items }

-- what is read past the end of a list
abbrev pub nothing_declared : Declared
nothing_declared = record { name = record { name = []; at = 0 }; uses = [] }

abbrev pub declared_at : List Declared → ℕ → Declared
declared_at ds i = get_or ds i nothing_declared

-- ---- an order
-- all of this name have had their turn
abbrev pub HasTurned : List Declared → List ℕ → Name → Type 0
HasTurned ds turns z = (j : ℕ) → j < length ds → is_called z (declared_at ds j).name ≡ true → list_any (nat_eq j) turns ≡ true

-- the turns, each after those of all that it uses
abbrev pub AreInTurn : List Declared → List ℕ → List ℕ → Type 0
AreInTurn ds before [] = Unit {0}
AreInTurn ds before (t ∷ ts) = All (HasTurned ds before) (declared_at ds t).uses × AreInTurn ds (before ++ t ∷ []) ts

-- the turns from a place on, counted from there
abbrev pub turns_from : ℕ → List ℕ → List ℕ
turns_from c [] = []
turns_from c (t ∷ ts) = if nat_lt t c then turns_from c ts else (t - c) ∷ turns_from c ts

-- All are in turn, each once: so many from each place on as there are.
pub record AreTurns (ds : List Declared) (turns : List ℕ) : Type 0 where
  pub within : All (λ t. t < length ds) turns
  pub counted : (c : ℕ) → length (turns_from c turns) ≤ length ds - c
  pub turned : (i : ℕ) → i < length ds → list_any (nat_eq i) turns ≡ true
  pub order : AreInTurn ds [] turns
