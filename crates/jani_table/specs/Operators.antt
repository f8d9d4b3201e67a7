-- The operators of JANI expressions (jani-model specification, version 1, "Expressions"): how each is written, and that it
-- means what an operator means that languages have in common.
use Rattle.std.specs.Prelude.{ℕ, Option, List, [], ◌∷◌, codes, bytes_eq, find}
use Rattle.op_trees.specs.Meaning.{Meaning, along}
use Rattle.op_trees.specs.Standard.{standard_meaning}
use Rattle.op_trees.specs.declared.standard.StandardOp.{StandardOp}
use Rattle.op_trees.specs.declared.standard.StandardOp.TheVariants as S
use Rattle.jani_table.specs.declared.operator.JaniOp.{JaniOp}
use Rattle.jani_table.specs.declared.operator.JaniOp.TheVariants.{Ite, Or, And, Not, Equal, Unequal, Less, AtMost, Greater, AtLeast, Add, Sub, Mul, Rem, Div, Floor, Ceil, Implies, Min, Max}

-- ---- the operators as they are written

abbrev pub op_text : JaniOp → List ℕ
op_text Ite = codes "ite"
op_text Or = 0xe2 ∷ 0x88 ∷ 0xa8 ∷ []
op_text And = 0xe2 ∷ 0x88 ∷ 0xa7 ∷ []
op_text Not = 0xc2 ∷ 0xac ∷ []
op_text Equal = codes "="
op_text Unequal = 0xe2 ∷ 0x89 ∷ 0xa0 ∷ []
op_text Less = codes "<"
op_text AtMost = 0xe2 ∷ 0x89 ∷ 0xa4 ∷ []
op_text Greater = codes ">"
op_text AtLeast = 0xe2 ∷ 0x89 ∷ 0xa5 ∷ []
op_text Add = codes "+"
op_text Sub = codes "-"
op_text Mul = codes "*"
op_text Rem = codes "%"
op_text Div = codes "/"
op_text Floor = codes "floor"
op_text Ceil = codes "ceil"
op_text Implies = 0xe2 ∷ 0x87 ∷ 0x92 ∷ []
op_text Min = codes "min"
op_text Max = codes "max"

abbrev pub ops : List JaniOp
ops = Ite ∷ Or ∷ And ∷ Not ∷ Equal ∷ Unequal ∷ Less ∷ AtMost ∷ Greater ∷ AtLeast ∷ Add ∷ Sub ∷ Mul ∷ Rem ∷ Div ∷ Floor ∷ Ceil ∷ Implies ∷ Min ∷ Max ∷ []

-- the operator that is written so
unfoldable pub op_of : List ℕ → Option JaniOp
op_of s = find (λ o. bytes_eq (op_text o) s) ops

-- ---- what they mean

abbrev pub standard : JaniOp → StandardOp
standard Ite = S.Ite
standard Or = S.Or
standard And = S.And
standard Not = S.Not
standard Equal = S.Equal
standard Unequal = S.Unequal
standard Less = S.Less
standard AtMost = S.AtMost
standard Greater = S.Greater
standard AtLeast = S.AtLeast
standard Add = S.Add
standard Sub = S.Sub
standard Mul = S.Mul
standard Rem = S.Mod
standard Div = S.Div
standard Floor = S.Floor
standard Ceil = S.Ceil
standard Implies = S.Implies
standard Min = S.Min
standard Max = S.Max

abbrev pub jani_meaning : Meaning JaniOp
jani_meaning = along standard standard_meaning

abbrev pub arity : JaniOp → ℕ
arity o = jani_meaning.arity o
