-- Expressions as a list of nodes, each over nodes that stand before it, and what is seen of each. (This project's own rule; what is seen of an
-- expression is defined in op_trees.)
use Rattle.std.specs.Prelude.{◌≡◌, ◌<◌, ℕ, List, [], ◌∷◌, ◌++◌, length, slice_get, Bool, true, ◌&&◌, nat_lt, Option, Some, None, unwrap_or, if◌then◌else◌}
use Rattle.op_trees.specs.Meaning.{Meaning, number}
use Rattle.op_trees.specs.Seen.{Seen, known, known_names, one_node, two_node, lazy_node, seen}
use Rattle.op_trees.specs.Tree.{Tree}
use Rattle.op_trees.specs.declared.tree.Value.{Value}
use Rattle.instance_start.specs.declared.data.Place.{Place}
use Rattle.expr_store.specs.declared.node.ExprId.{ExprId}
use Rattle.expr_store.specs.declared.node.Node.{Node}
use Rattle.expr_store.specs.declared.node.Node.TheVariants.{Fixed, Number, Name, One, Two, Three}

module _ {O : Type 0} where
  -- the operands of a node all stand before this number
  abbrev pub is_behind : ℕ → Node O → Bool
  is_behind i (Fixed v) = true
  is_behind i (Number d) = true
  is_behind i (Name p) = true
  is_behind i (One o a) = nat_lt a i
  is_behind i (Two o a b) = nat_lt a i && nat_lt b i
  is_behind i (Three o a b c) = nat_lt a i && nat_lt b i && nat_lt c i

  -- the node of a number, none where its operands don't all stand before it
  abbrev pub behind : ℕ → Option (Node O) → Option (Node O)
  behind i None = None
  behind i (Some n) = if is_behind i n then Some n else None

  abbrev pub node_at : List (Node O) → ℕ → Option (Node O)
  node_at ns i = behind i (slice_get ns i)

  -- a node has this number, and stands behind its operands
  pub record Holds (ns : List (Node O)) (i : ℕ) (n : Node O) : Type 0 where
    pub is : slice_get ns i ≡ Some n
    pub behind : is_behind i n ≡ true

  -- these nodes go on from those
  pub record IsGrown (old new : List (Node O)) : Type 0 where
    pub later : List (Node O)
    pub is : new ≡ old ++ later

  -- a number is that of a node
  abbrev pub IsIn : List (Node O) → ExprId → Type 0
  IsIn ns id = id.number < length ns

-- what is seen of a number, nothing where there is none
abbrev pub seen_of : List Seen → ℕ → Seen
seen_of seen i = unwrap_or (slice_get seen i) (known None)

module _ {O : Type 0} (m : Meaning O) (at : Option Place → Option Value) where
  -- what is seen of a node by what is seen of its operands
  abbrev pub seen_node : (ℕ → Seen) → Node O → Seen
  seen_node before (Fixed v) = known (Some v)
  seen_node before (Number d) = known (Some (number d))
  seen_node before (Name p) = known (at p)
  seen_node before (One o a) = one_node m o (before a)
  seen_node before (Two o a b) = two_node m o (before a) (before b)
  seen_node before (Three o a b c) = lazy_node m o (before a) (before b) (before c)

  abbrev pub seen_some : (ℕ → Seen) → Option (Node O) → Seen
  seen_some before None = known None
  seen_some before (Some n) = seen_node before n

  -- of nodes that come behind those that are seen so, from the left, each by those before it
  abbrev pub seen_behind : List Seen → List (Node O) → List Seen
  seen_behind before [] = before
  seen_behind before (n ∷ ns) = seen_behind (before ++ (seen_some (seen_of before) (behind (length before) (Some n)) ∷ [])) ns

  -- what is seen of the node of a number, nothing where there is none or where it doesn't stand behind its operands
  unfoldable pub seen_at : List (Node O) → ℕ → Seen
  seen_at ns i = seen_of (seen_behind [] ns) i

-- In each list of nodes that goes on from these, whatever stands at the places of names, an operator over nodes comes out as this value.
module _ {O : Type 0} (m : Meaning O) where
  pub record OneIs (ns : List (Node O)) (o : O) (a : ℕ) (v : Value) : Type 0 where
    pub is : (later : List (Node O)) (at : Option Place → Option Value) → one_node m o (seen_at m at (ns ++ later) a) ≡ known (Some v)

  pub record TwoIs (ns : List (Node O)) (o : O) (a b : ℕ) (v : Value) : Type 0 where
    pub is : (later : List (Node O)) (at : Option Place → Option Value) → two_node m o (seen_at m at (ns ++ later) a) (seen_at m at (ns ++ later) b) ≡ known (Some v)

-- In each list of nodes that goes on from these, whatever stands at the places of names, this number is seen as this expression is.
module _ {O : Type 0} (m : Meaning O) (places : List ℕ → Option Place) where
  pub record Stands (ns : List (Node O)) (i : ℕ) (t : Tree O) : Type 0 where
    pub within : i < length ns
    pub sees : (later : List (Node O)) (at : Option Place → Option Value) → seen_at m at (ns ++ later) i ≡ seen m t (known_names (λ x. at (places x)))
