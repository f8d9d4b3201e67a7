-- A walk through a tree from its leaves up: what each node comes to, by what its operands came to. (This project's own.)
use Rattle.std.specs.Prelude.{ℕ, List, Bool}
use Rattle.frac_core.specs.declared.decimal.Decimal.{Decimal}
use Rattle.op_trees.specs.declared.tree.Expr.{Expr}
use Rattle.op_trees.specs.Tree.{Tree, tree, Truth, Number, Name, One, Two, Three}

-- one node with an operator of O, over what its operands came to
pub data Node (O X : Type 0) : Type 0 where
  TruthNode : ℕ → Bool → Node O X
  NumberNode : ℕ → Decimal → Node O X
  NameNode : ℕ → List ℕ → Node O X
  OneNode : ℕ → O → X → Node O X
  TwoNode : ℕ → O → X → X → Node O X
  ThreeNode : ℕ → O → X → X → X → Node O X

-- what a tree comes to
abbrev pub walked : {O X : Type 0} → (Node O X → X) → Tree O → X
walked step (Truth at b) = step (TruthNode at b)
walked step (Number at d) = step (NumberNode at d)
walked step (Name at x) = step (NameNode at x)
walked step (One at o a) = step (OneNode at o (walked step a))
walked step (Two at o a b) = step (TwoNode at o (walked step a) (walked step b))
walked step (Three at o a b c) = step (ThreeNode at o (walked step a) (walked step b) (walked step c))

-- a new tree with what was noted of it, as the code holds them
abbrev pub pair : {Q T : Type 0} → Expr Q × T → Tree Q × T
pair p = (tree p.0, p.1)

-- A relation between trees and what they come to that holds of each node, where it holds of its operands.
module _ {O X : Type 0} (step : Node O X → X) (R : Tree O → X → Type 0) where
  pub record GoesUp : Type 0 where
    pub truth : (at : ℕ) (b : Bool) → R (Truth at b) (step (TruthNode at b))
    pub number : (at : ℕ) (d : Decimal) → R (Number at d) (step (NumberNode at d))
    pub name : (at : ℕ) (x : List ℕ) → R (Name at x) (step (NameNode at x))
    pub one : (at : ℕ) (o : O) (a : Tree O) (x : X) → R a x → R (One at o a) (step (OneNode at o x))
    pub two : (at : ℕ) (o : O) (a b : Tree O) (x y : X) → R a x → R b y → R (Two at o a b) (step (TwoNode at o x y))
    pub three : (at : ℕ) (o : O) (a b c : Tree O) (x y z : X) → R a x → R b y → R c z → R (Three at o a b c) (step (ThreeNode at o x y z))

  -- it holds of every tree
  pub walked_holds : GoesUp → (t : Tree O) → R t (walked step t)
  walked_holds g (Truth at b) = g.truth at b
  walked_holds g (Number at d) = g.number at d
  walked_holds g (Name at x) = g.name at x
  walked_holds g (One at o a) = g.one at o a (walked step a) (walked_holds g a)
  walked_holds g (Two at o a b) = g.two at o a b (walked step a) (walked step b) (walked_holds g a) (walked_holds g b)
  walked_holds g (Three at o a b c) =
      g.three at o a b c (walked step a) (walked step b) (walked step c) (walked_holds g a) (walked_holds g b) (walked_holds g c)
