-- How declarations are placed one after another, and how the names are found that lead to one.
use Rattle.std.specs.Prelude.{◌≡◌, ℕ, zero, suc, ◌+◌, ◌-◌, ◌<◌, ◌≤◌, List, [], ◌∷◌, length, map, get_or, Bool, true, false, not, ◌&&◌, nat_lt, nat_le, nat_eq, if◌then◌else◌, unwrap_or, Option, None, Some}
use Rattle.std.specs.List.{All, list_any}
use Rattle.std.specs.Borrow.{Bor}
use Rattle.bridge_io.specs.declared.reason.Fault.{Fault}
use Rattle.name_rules.specs.declared.declarations.Declaration.{Declaration}
use Rattle.name_rules.specs.declared.waiting.Waiting.{Waiting}
use Rattle.name_rules.specs.declared.placing.Placing.{Placing}
use Rattle.name_rules.specs.declared.ranks.Ranks.{Ranks}
use Rattle.name_rules.specs.declared.ranks.Above.{Above}
use Rattle.op_trees.specs.Names.{is_called}
use Rattle.name_rules.specs.Names.{Name, under}
use Rattle.name_rules.specs.Circles.{Declared, declared_by, declared_at, leads_to, is_circular, AreInTurn, turns_from}

-- some name that it uses is such a one
abbrev pub some_use : (Name → Bool) → Declared → Bool
some_use is_such d = list_any is_such d.uses

-- ---- places
abbrev pub is_placed : List Bool → ℕ → Bool
is_placed placed i = get_or placed i false

abbrev pub one_if : Bool → ℕ
one_if b = if b then 1 else 0

-- how many of a name are not placed
abbrev pub waiting : List Declared → List Bool → Name → ℕ
waiting [] bs x = 0
waiting (d ∷ ds) [] x = one_if (is_called x d.name) + waiting ds [] x
waiting (d ∷ ds) (b ∷ bs) x = one_if (not b && is_called x d.name) + waiting ds bs x

-- how many the table says, and whether there are any
abbrev pub count_in : Waiting → Name → ℕ
count_in w x = unwrap_or (under w.counts x) 0

abbrev pub waits_in : Waiting → Name → Bool
waits_in w x = nat_lt 0 (count_in w x)

-- it uses a name of which some are not placed
abbrev pub is_blocked : (Name → ℕ) → Declared → Bool
is_blocked left d = some_use (λ z. nat_lt 0 (left z)) d

-- how many from a place on are not placed
abbrev pub open_from : ℕ → List Bool → ℕ
open_from c [] = 0
open_from zero (b ∷ bs) = one_if (not b) + open_from zero bs
open_from (suc c) (b ∷ bs) = open_from c bs

-- What is placed uses nothing that is not, and is in no circle; each had one turn, after those of all that it uses.
pub record IsPlacing (ds : List Declared) (left : Name → ℕ) (placed : List Bool) (turns : List ℕ) : Type 0 where
  pub size : length placed ≡ length ds
  pub counts : (x : Name) → left x ≡ waiting ds placed x
  pub free : (i : ℕ) → is_placed placed i ≡ true → is_blocked left (declared_at ds i) ≡ false
  pub sound : (i : ℕ) → is_placed placed i ≡ true → is_circular ds (declared_at ds i) ≡ false
  pub turned : (i : ℕ) → is_placed placed i ≡ true → list_any (nat_eq i) turns ≡ true
  pub within : All (λ t. t < length ds) turns
  pub counted : (c : ℕ) → length (turns_from c turns) + open_from c placed ≡ length ds - c
  pub order : AreInTurn ds [] turns

-- What is not placed uses something that is not.
abbrev pub IsStuck : List Declared → (Name → ℕ) → List Bool → Type 0
IsStuck ds left placed = (i : ℕ) → i < length ds → is_placed placed i ≡ false → is_blocked left (declared_at ds i) ≡ true

-- what the code's state has
abbrev pub IsPlaced : List Declaration → Placing → Type 0
IsPlaced all p = IsPlacing (map declared_by all) (count_in p.waiting) p.placed.items p.turns.items

abbrev pub IsStuckIn : List Declaration → Placing → Type 0
IsStuckIn all p = IsStuck (map declared_by all) (count_in p.waiting) p.placed.items

-- fewer are left to be placed; or nothing changed, and this one is placed or uses something that is not
abbrev pub IsTry : List Declaration → ℕ → Placing → Placing → Bool → Type 0
IsTry all i old new true = open_from 0 new.placed.items < open_from 0 old.placed.items
IsTry all i old new false =
    (new ≡ old) × (i < length (map declared_by all) → is_placed old.placed.items i ≡ false →
    is_blocked (count_in old.waiting) (declared_at (map declared_by all) i) ≡ true)

-- fewer are left to be placed; or no more can be
abbrev pub IsTurn : List Declaration → Placing → Placing → Bool → Type 0
IsTurn all old new true = open_from 0 new.placed.items < open_from 0 old.placed.items
IsTurn all old new false = IsStuckIn all new

-- the same of the declarations before a place
abbrev pub IsTurnTo : List Declaration → ℕ → Placing → Placing → Bool → Type 0
IsTurnTo all n old new true = open_from 0 new.placed.items < open_from 0 old.placed.items
IsTurnTo all n old new false =
    (new ≡ old) × ((i : ℕ) → i < n → i < length (map declared_by all) → is_placed old.placed.items i ≡ false →
    is_blocked (count_in old.waiting) (declared_at (map declared_by all) i) ≡ true)

-- ---- names that lead to one
-- how many declare a name that is not such a one
abbrev pub others : (Name → Bool) → List Declared → ℕ
others is_such [] = 0
others is_such (d ∷ ds) = one_if (not (is_such d.name.name)) + others is_such ds

-- names that lead to one, in steps whose number leaves room for the others
pub record AreLeading (ds : List Declared) (y : Name) (is_such : Name → Bool) : Type 0 where
  pub steps : ℕ
  pub own : is_such y ≡ true
  pub sound : (x : Name) → is_such x ≡ true → leads_to ds steps x y ≡ true
  pub room : steps + others is_such ds ≤ length ds

-- no other declaration uses one of them
abbrev pub AreClosed : List Declared → (Name → Bool) → Type 0
AreClosed ds is_such = (i : ℕ) → i < length ds → is_such (declared_at ds i).name.name ≡ false → some_use is_such (declared_at ds i) ≡ false

-- what leads to one before does so after
abbrev pub StillLeading : List Declaration → (Name → Bool) → (Name → Bool) → Type 0
StillLeading all old new = (y : Name) → AreLeading (map declared_by all) y old → AreLeading (map declared_by all) y new

-- fewer names are left; or nothing changed, and this one uses none of them
abbrev pub IsLeadingTry : List Declaration → ℕ → (Name → Bool) → (Name → Bool) → Bool → Type 0
IsLeadingTry all i old new true = others new (map declared_by all) < others old (map declared_by all)
IsLeadingTry all i old new false =
    ((x : Name) → new x ≡ old x) × (i < length (map declared_by all) → old (declared_at (map declared_by all) i).name.name ≡ false →
    some_use old (declared_at (map declared_by all) i) ≡ false)

-- fewer names are left; or no other declaration uses one of them
abbrev pub IsLeadingTurn : List Declaration → (Name → Bool) → (Name → Bool) → Bool → Type 0
IsLeadingTurn all old new true = others new (map declared_by all) < others old (map declared_by all)
IsLeadingTurn all old new false = AreClosed (map declared_by all) new

-- the same of the declarations before a place
abbrev pub IsLeadingTurnTo : List Declaration → ℕ → (Name → Bool) → (Name → Bool) → Bool → Type 0
IsLeadingTurnTo all n old new true = others new (map declared_by all) < others old (map declared_by all)
IsLeadingTurnTo all n old new false =
    ((x : Name) → new x ≡ old x) × ((i : ℕ) → i < n → i < length (map declared_by all) → old (declared_at (map declared_by all) i).name.name ≡ false →
    some_use old (declared_at (map declared_by all) i) ≡ false)

-- a fault that was found stands before this offset
abbrev pub is_past : Option Fault → ℕ → Bool
is_past None at = false
is_past (Some f) at = nat_lt f.at at

-- ---- ranks
abbrev pub rank_in : Ranks → Name → ℕ
rank_in r x = unwrap_or (under r.numbers x) 0

abbrev pub is_above : Above → Name → Bool
is_above a x = nat_lt a.bound (rank_in a.ranks.now x)

-- No declaration uses a name above its own.
abbrev pub AreFalling : List Declared → (Name → ℕ) → Type 0
AreFalling ds rank = (i : ℕ) → i < length ds → some_use (λ z. nat_lt (rank (declared_at ds i).name.name) (rank z)) (declared_at ds i) ≡ false

-- there are ranks, and it uses lower names alone
abbrev pub UsesLower : Option (Bor Ranks) → Declared → Type 0
UsesLower None d = ⊥
UsesLower (Some r) d = some_use (λ z. nat_le (rank_in r.now d.name.name) (rank_in r.now z)) d ≡ false

abbrev pub FallIn : List Declaration → Option (Bor Ranks) → Type 0
FallIn all None = Unit {0}
FallIn all (Some r) = AreFalling (map declared_by all) (rank_in r.now)
