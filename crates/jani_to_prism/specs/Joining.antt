-- Expressions that are joined from the left one after another.
use Rattle.std.specs.Prelude.{List, [], ◌∷◌, Option, Some, None}
use Rattle.op_trees.specs.Tree.{Two}
use Rattle.prism_tree.specs.declared.operator.PrismOp.{PrismOp}
use Rattle.prism_tree.specs.Syntax.{Expression}

-- what is there already, if anything, and then these
abbrev pub so_far : PrismOp → Option Expression → List Expression → Option Expression
so_far op o [] = o
so_far op None (e ∷ es) = so_far op (Some e) es
so_far op (Some a) (e ∷ es) = so_far op (Some (Two 0 op a e)) es
