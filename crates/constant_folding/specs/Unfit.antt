-- Which given values the open constants of a model take. (PRISM manual, "The PRISM Language": "Constants"; jani-model specification, version 1: "Models".
-- Which value is refused is this project's own rule.)
use Rattle.std.specs.Prelude.{◌≡◌, ℕ, List, IsTrue, Option, Some, None, not, false, nat_lt, if◌then◌else◌}
use Rattle.std.specs.List.{list_any, position_or_len}
use Rattle.op_trees.specs.declared.tree.Value.{Value}
use Rattle.op_trees.specs.Meaning.{is_wide_value}
use Rattle.process_core.specs.Ready.{Name}
use Rattle.process_core.specs.Instance.{Valuation}
use Rattle.process_core.specs.declared.data.Given.{Given}
use Rattle.instance_start.specs.Description.{Constant}
use Rattle.instance_start.specs.Given.{fits}
use Rattle.op_trees.specs.Types.{has_type}
use Rattle.constant_folding.specs.Constants.{AnyConst, called}
use Rattle.constant_folding.specs.declared.given.SpecFail.{SpecFail}
use Rattle.constant_folding.specs.declared.given.SpecFail.TheVariants.{Memory, Word}

-- the first given value that no open constant takes; constants may be left open
abbrev pub unfit : List Constant → List Given → Option ℕ
unfit cs given = if list_any (λ g. not (fits cs g)) given then Some (position_or_len (λ g. not (fits cs g)) given) else None

-- a place, unless it is behind the last of so many
abbrev pub place_within : Option ℕ → ℕ → Option ℕ
place_within None count = None
place_within (Some i) count = if nat_lt i count then Some i else None

-- want of memory, or the first given value that doesn't fit
abbrev pub Fails : List Constant → List Given → SpecFail → Type 0
Fails cs given (Memory e) = Unit {0}
Fails cs given (Word i) = unfit cs given ≡ Some i

-- a valuation gives the constants that others give the same values
pub record Extends (given v : Valuation) : Type 0 where
  pub gives : (x : Name) (g : Value) → given x ≡ Some g → v x ≡ Some g

-- no given value is wide
pub record IsSmall (given : Valuation) : Type 0 where
  pub small : (x : Name) (g : Value) → given x ≡ Some g → is_wide_value (Some g) ≡ false

-- given values have the types of their constants
pub record AreFitting {O : Type 0} (cs : List (AnyConst O)) (given : Valuation) : Type 0 where
  pub fitting : (x : Name) (c : AnyConst O) (y : Value) → called cs x ≡ Some c → given x ≡ Some y → IsTrue (has_type c.ty y)
