-- Trees over other operators that are made node by node, and what is seen of them.
use Rattle.std.specs.Prelude.{◌≡◌, List, Some, ℕ}
use Rattle.std.proofs.Common.{ap, ap₂, ◌∙◌}
use Rattle.op_trees.specs.declared.tree.Value.TheVariants as V
use Rattle.op_trees.specs.declared.rebuild.Shape.{Shape}
use Rattle.op_trees.specs.declared.rebuild.Shape.TheVariants as S
use Rattle.op_trees.specs.Tree.{Tree, tree, Truth, Number, Name, One, Two, Three}
use Rattle.op_trees.specs.Walk.{Node, TruthNode, NumberNode, NameNode, OneNode, TwoNode, ThreeNode, walked}
use Rattle.op_trees.specs.Meaning.{Meaning, number}
use Rattle.op_trees.specs.Seen.{Seen, known, one_node, two_node, lazy_node, seen}

-- the node that the code holds, over rebuilt operands
abbrev pub shape : {O Q : Type 0} → Shape O Q → Node O (Tree Q)
shape (S.Truth at b) = TruthNode at b
shape (S.Number at d) = NumberNode at d
shape (S.Name at x) = NameNode at x
shape (S.One at o a) = OneNode at o (tree a.value)
shape (S.Two at o a b) = TwoNode at o (tree a.value) (tree b.value)
shape (S.Three at o a b c) = ThreeNode at o (tree a.value) (tree b.value) (tree c.value)

-- what is rebuilt of a node over trees, where nothing is noted of them
abbrev pub noting : {O Q : Type 0} → (Node O (Tree Q) → Tree Q) → Node O (Tree Q × Unit {0}) → Tree Q × Unit {0}
noting rebuilt (TruthNode at b) = (rebuilt (TruthNode at b), tt)
noting rebuilt (NumberNode at d) = (rebuilt (NumberNode at d), tt)
noting rebuilt (NameNode at x) = (rebuilt (NameNode at x), tt)
noting rebuilt (OneNode at o a) = (rebuilt (OneNode at o a.0), tt)
noting rebuilt (TwoNode at o a b) = (rebuilt (TwoNode at o a.0 b.0), tt)
noting rebuilt (ThreeNode at o a b c) = (rebuilt (ThreeNode at o a.0 b.0 c.0), tt)

-- What a tree comes to has a tree in it, made of those of its operands.
module _ {O Q X : Type 0} (m : Meaning O) (k : Meaning Q) (made : X → Tree Q) (step : Node O X → X) (old new : List ℕ → Seen) where
  -- what is seen of a node, by its own operator, over the trees that were made
  abbrev pub node_seen : Node O X → Seen
  node_seen (TruthNode at b) = known (Some (V.Truth b))
  node_seen (NumberNode at d) = known (Some (number d))
  node_seen (NameNode at x) = old x
  node_seen (OneNode at o a) = one_node m o (seen k (made a) new)
  node_seen (TwoNode at o a b) = two_node m o (seen k (made a) new) (seen k (made b) new)
  node_seen (ThreeNode at o a b c) = lazy_node m o (seen k (made a) new) (seen k (made b) new) (seen k (made c) new)

  -- the tree that is made of a node is seen as the node
  pub record IsKept (n : Node O X) : Type 0 where
    pub kept : seen k (made (step n)) new ≡ node_seen n

  -- each node of a tree is kept
  abbrev pub KeepsNodes : Tree O → Type 0
  KeepsNodes (Truth at b) = IsKept (TruthNode at b)
  KeepsNodes (Number at d) = IsKept (NumberNode at d)
  KeepsNodes (Name at x) = IsKept (NameNode at x)
  KeepsNodes (One at o a) = KeepsNodes a × IsKept (OneNode at o (walked step a))
  KeepsNodes (Two at o a b) = KeepsNodes a × KeepsNodes b × IsKept (TwoNode at o (walked step a) (walked step b))
  KeepsNodes (Three at o a b c) =
      KeepsNodes a × KeepsNodes b × KeepsNodes c × IsKept (ThreeNode at o (walked step a) (walked step b) (walked step c))

-- wherever each node of the old tree is kept, the new tree is seen as the old one
abbrev pub KeepsAnswers : {O Q X : Type 0} → Meaning O → Meaning Q → (X → Tree Q) → (Node O X → X) → Tree O → Tree Q → Type 0
KeepsAnswers m k made step before after =
    (old new : List ℕ → Seen) → KeepsNodes m k made step old new before → seen k after new ≡ seen m before old

module _ {O Q X : Type 0} (m : Meaning O) (k : Meaning Q) (made : X → Tree Q) (step : Node O X → X) (old new : List ℕ → Seen) where
  -- where each node of a tree is kept, so is the tree
  pub seen-walked : (t : Tree O) → KeepsNodes m k made step old new t → seen k (made (walked step t)) new ≡ seen m t old
  seen-walked (Truth at b) h = h.kept
  seen-walked (Number at d) h = h.kept
  seen-walked (Name at x) h = h.kept
  seen-walked (One at o a) h = h.1.kept ∙ ap (one_node m o) (seen-walked a h.0)
  seen-walked (Two at o a b) h = h.2.kept ∙ ap₂ (two_node m o) (seen-walked a h.0) (seen-walked b h.1)
  seen-walked (Three at o a b c) h =
      h.3.kept ∙ ap₂ {B =
      Seen →
      Seen} (λ r g. g r) (seen-walked a h.0) (ap₂ (λ s t r. lazy_node m o r s t) (seen-walked b h.1) (seen-walked c h.2))
