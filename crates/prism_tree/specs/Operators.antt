-- The operators of the PRISM language (PRISM manual, "Expressions"): each means what an operator means that languages have in
-- common.
use Rattle.std.specs.Prelude.{ℕ}
use Rattle.op_trees.specs.Meaning.{Meaning, along}
use Rattle.op_trees.specs.Standard.{standard_meaning}
use Rattle.op_trees.specs.declared.standard.StandardOp.{StandardOp}
use Rattle.op_trees.specs.declared.standard.StandardOp.TheVariants as S
use Rattle.prism_tree.specs.declared.operator.PrismOp.{PrismOp}
use Rattle.prism_tree.specs.declared.operator.PrismOp.TheVariants.{Neg, Mul, Div, Add, Sub, Less, AtMost, AtLeast, Greater, Equal, Unequal, Not, And, Or, Iff, Implies, Ite, Min, Max, Floor, Ceil, Mod}

abbrev pub standard : PrismOp → StandardOp
standard Neg = S.Neg
standard Mul = S.Mul
standard Div = S.Div
standard Add = S.Add
standard Sub = S.Sub
standard Less = S.Less
standard AtMost = S.AtMost
standard AtLeast = S.AtLeast
standard Greater = S.Greater
standard Equal = S.Equal
standard Unequal = S.Unequal
standard Not = S.Not
standard And = S.And
standard Or = S.Or
standard Iff = S.Iff
standard Implies = S.Implies
standard Ite = S.Ite
standard Min = S.Min
standard Max = S.Max
standard Floor = S.Floor
standard Ceil = S.Ceil
standard Mod = S.Mod

abbrev pub prism_meaning : Meaning PrismOp
prism_meaning = along standard standard_meaning

abbrev pub arity : PrismOp → ℕ
arity o = prism_meaning.arity o
