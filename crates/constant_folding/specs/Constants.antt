-- The constants of a model, in whichever language it is: what is known of them under given values, their values under a valuation, and what they become.
-- (PRISM manual, "The PRISM Language": "Constants"; jani-model specification, version 1: "Models". Which constants count as known is this project's own
-- rule.)
use Rattle.std.specs.Prelude.{◌≡◌, ℕ, zero, suc, ◌<◌, List, length, Option, Some, None, is_none}
use Rattle.std.specs.List.{find}
use Rattle.std.specs.Option.{option_map}
use Rattle.bridge_io.specs.declared.reason.Named.{Named}
use Rattle.op_trees.specs.declared.tree.Ty.{Ty}
use Rattle.op_trees.specs.declared.tree.Value.{Value}
use Rattle.op_trees.specs.Tree.{Tree, AllNames, tree}
use Rattle.op_trees.specs.Names.{is_called}
use Rattle.op_trees.specs.Meaning.{Meaning}
use Rattle.op_trees.specs.Seen.{Seen, known, seen}
use Rattle.name_rules.specs.Circles.{Declared}
use Rattle.name_rules.specs.Uses.{used}
use Rattle.process_core.specs.Ready.{Name}
use Rattle.process_core.specs.Instance.{Valuation}
use Rattle.instance_start.specs.Description.{Constant}
use Rattle.constant_folding.specs.declared.known.Fixed.{Fixed}
use Rattle.constant_folding.specs.Known.{Known, summary, worth}
use Rattle.constant_folding.specs.Folded.{fold}
use Rattle.constant_folding.specs.declared.constants.AnyConst as code

-- a constant: its name, its type, and its expression, where it has one
pub record AnyConst (O : Type 0) : Type 0 where
  pub name : Named
  pub ty : Ty
  pub value : Option (Tree O)

-- what the code holds of it
abbrev pub const_of : {O : Type 0} → code.AnyConst O → AnyConst O
const_of c = record { name = c.name.now; ty = c.ty; value = option_map tree c.value.now }

-- the first constant of a name
abbrev pub called : {O : Type 0} → List (AnyConst O) → Name → Option (AnyConst O)
called cs x = find (λ c. is_called x c.name) cs

-- one without an expression is left open
abbrev pub described : {O : Type 0} → AnyConst O → Constant
described c = record { name = c.name.name; ty = c.ty; is_open = is_none c.value }

-- the names that it uses
abbrev pub declared : {O : Type 0} → AnyConst O → Declared
declared c = record { name = c.name; uses = used c.value }

-- ---- constants that lead round in no circle
-- a name that, if it is a constant's, is ranked below n
pub record RanksBelow {O : Type 0} (cs : List (AnyConst O)) (rank : Name → ℕ) (n : ℕ) (x : Name) : Type 0 where
  pub below : (c : AnyConst O) → called cs x ≡ Some c → rank x < n

-- a rank falls from a constant to the constants in its expression
pub record IsRank {O : Type 0} (cs : List (AnyConst O)) (rank : Name → ℕ) : Type 0 where
  pub within : (x : Name) → RanksBelow cs rank (length cs) x
  pub falls : (x : Name) (c : AnyConst O) (e : Tree O) → called cs x ≡ Some c → c.value ≡ Some e → AllNames (RanksBelow cs rank (rank x)) e

pub record AreRanked {O : Type 0} (cs : List (AnyConst O)) : Type 0 where
  pub rank : Name → ℕ
  pub ranked : IsRank cs rank

-- a value, where there is one, as that of a constant of this type
abbrev pub fixed_as : Ty → Option Value → Option Fixed
fixed_as ty v = option_map (λ x. record { value = x; ty = ty }) v

module _ {O : Type 0} (m : Meaning O) where
  -- ---- known constants
  -- what is known of a constant without an expression is the value that is given for it; of another, what its expression is worth
  abbrev pub known_by : Option Value → Known → Ty → Option (Tree O) → Option Fixed
  known_by given known ty None = fixed_as ty given
  known_by given known ty (Some e) = fixed_as ty (worth (summary m known e))

  abbrev pub known_const : Option Value → Known → Option (AnyConst O) → Option Fixed
  known_const given known None = None
  known_const given known (Some c) = known_by given known c.ty c.value

  -- the known constants whose expressions lead through fewer than n further constants
  abbrev pub known_within : List (AnyConst O) → Valuation → ℕ → Known
  known_within cs given zero x = None
  known_within cs given (suc n) x = known_const (given x) (known_within cs given n) (called cs x)

  -- the known constants; constants may stand in any order
  abbrev pub known_constants : List (AnyConst O) → Valuation → Known
  known_constants cs given = known_within cs given (length cs)

  -- ---- values
  -- what is seen of a constant: the value that is given for it, or that of its expression
  abbrev pub const_seen : Option Value → (Name → Seen) → Option (Tree O) → Seen
  const_seen given names None = known given
  const_seen given names (Some e) = seen m e names

  abbrev pub const_value : Option Value → (Name → Seen) → Option (AnyConst O) → Option Value
  const_value given names None = None
  const_value given names (Some c) = (const_seen given names c.value).value

  -- the value of a constant whose expression leads through fewer than n further constants
  abbrev pub value_within : List (AnyConst O) → Valuation → ℕ → Name → Option Value
  value_within cs v zero x = None
  value_within cs v (suc n) x = const_value (v x) (λ y. known (value_within cs v n y)) (called cs x)

  abbrev pub const_values : List (AnyConst O) → Valuation → Name → Option Value
  const_values cs v = value_within cs v (length cs)

  -- ---- what constants become
  module _ (literal : Value → Ty → Tree O) where
    -- a constant without an expression gets the literal of the value that is given for it, that of another is folded
    abbrev pub specialised_value : Option Value → Known → Ty → Option (Tree O) → Option (Tree O)
    specialised_value given known ty None = option_map (λ x. literal x ty) given
    specialised_value given known ty (Some e) = Some (fold m literal known e)

    abbrev pub specialised_const : Valuation → Known → AnyConst O → AnyConst O
    specialised_const given known c = record { name = c.name; ty = c.ty; value = specialised_value (given c.name.name) known c.ty c.value }
