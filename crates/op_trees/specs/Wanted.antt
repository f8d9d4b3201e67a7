-- What the type of an expression has to be: an int is a number too. (PRISM manual, "The PRISM Language": "Constants", "Expressions";
-- jani-model specification, version 1: "Types", "Expressions".)
use Rattle.std.specs.Prelude.{◌≡◌, Bool, true, false, not, Option, Some, None, IsTrue}
use Rattle.std.proofs.Common.{refl}
use Rattle.op_trees.specs.declared.tree.Ty.{Ty}
use Rattle.op_trees.specs.declared.tree.Ty.TheVariants as T
use Rattle.op_trees.specs.declared.tree.Value.{Value}
use Rattle.op_trees.specs.declared.tree.Value.TheVariants as V
use Rattle.op_trees.specs.declared.wanted.Wanted.{Wanted}
use Rattle.op_trees.specs.declared.wanted.Wanted.TheVariants as W
use Rattle.op_trees.specs.Types.{has_type}

-- what is given to a thing of a type
abbrev pub wanted_by : Ty → Wanted
wanted_by T.Bool = W.Bool
wanted_by T.Int = W.Int
wanted_by T.Real = W.Number

abbrev pub is_wanted : Wanted → Ty → Bool
is_wanted W.Anything t = true
is_wanted W.Bool T.Bool = true
is_wanted W.Int T.Int = true
is_wanted W.Number T.Int = true
is_wanted W.Number T.Real = true
is_wanted W.Bool T.Int = false
is_wanted W.Bool T.Real = false
is_wanted W.Int T.Bool = false
is_wanted W.Int T.Real = false
is_wanted W.Number T.Bool = false

-- an expression without a type has its fault at a node
abbrev pub is_unwanted : Wanted → Option Ty → Bool
is_unwanted w None = false
is_unwanted w (Some t) = not (is_wanted w t)

-- a value of a type that is wanted
pub wider : (w s : Ty) (v : Value) → is_wanted (wanted_by w) s ≡ true → IsTrue (has_type s v) → IsTrue (has_type w v)
wider T.Bool T.Bool v h k = k
wider T.Bool T.Int v h k = absurd cc
wider T.Bool T.Real v h k = absurd cc
wider T.Int T.Int v h k = k
wider T.Int T.Bool v h k = absurd cc
wider T.Int T.Real v h k = absurd cc
wider T.Real T.Bool v h k = absurd cc
wider T.Real T.Int (V.Number q) h k = refl
wider T.Real T.Int (V.Truth b) h k = k
wider T.Real T.Real v h k = k
