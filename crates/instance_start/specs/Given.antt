-- Values that are given for the constants that a file leaves open. (PRISM manual, "The PRISM Language": "Constants";
-- jani-model specification, version 1: "Models". Which value is refused, and where, is this project's own rule.)
use Rattle.std.specs.Prelude.{ℕ, List, [], ◌∷◌, length, Bool, true, false, not, ◌&&◌, Option, Some, None, is_none, if◌then◌else◌, bytes_eq}
use Rattle.std.specs.List.{find, list_any, position_or_len}
use Rattle.frac_core.specs.Fraction.{is_whole}
use Rattle.op_trees.specs.declared.tree.Ty.{Ty}
use Rattle.op_trees.specs.declared.tree.Ty.TheVariants as T
use Rattle.op_trees.specs.declared.tree.Value.{Value}
use Rattle.op_trees.specs.declared.tree.Value.TheVariants as V
use Rattle.process_core.specs.Ready.{Name}
use Rattle.process_core.specs.Instance.{Valuation}
use Rattle.process_core.specs.declared.data.Given.{Given}
use Rattle.instance_start.specs.Description.{Constant}

-- the valuation by given values: the first one that is given for a name
abbrev pub given_by : List Given → Valuation
given_by [] x = None
given_by (g ∷ gs) x = if bytes_eq g.name x then Some g.value else given_by gs x

-- a real constant takes every number, an int a whole one
abbrev pub takes : Ty → Value → Bool
takes T.Bool (V.Truth b) = true
takes T.Bool (V.Number q) = false
takes T.Int (V.Truth b) = false
takes T.Int (V.Number q) = is_whole q
takes T.Real (V.Truth b) = false
takes T.Real (V.Number q) = true

abbrev pub constant_called : List Constant → Name → Option Constant
constant_called cs x = find (λ c. bytes_eq c.name x) cs

-- the constant is there, is left open, and takes the value
abbrev pub is_taken : Option Constant → Value → Bool
is_taken None v = false
is_taken (Some c) v = c.is_open && takes c.ty v

abbrev pub fits : List Constant → Given → Bool
fits cs g = is_taken (constant_called cs g.name) g.value

-- a constant that is left open and not given
abbrev pub is_missing : List Given → Constant → Bool
is_missing given c = c.is_open && is_none (given_by given c.name)

-- The first given value that no open constant takes; at their count, that an open constant isn't given; or none.
abbrev pub misfit : List Constant → List Given → Option ℕ
misfit cs given =
    if list_any (λ g. not (fits cs g)) given then Some (position_or_len (λ g. not (fits cs g)) given)
    else (if list_any (is_missing given) cs then Some (length given) else None)
