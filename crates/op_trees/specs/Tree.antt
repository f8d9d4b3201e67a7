-- Expressions without the addresses of their boxes, and what is said of every tree.
use Rattle.std.specs.Prelude.{ℕ, zero, suc, ◌+◌, ◌-◌, ◌^◌, List, max, min, Bool, Option, Some, None}
use Rattle.std.specs.Option.{option_map}
use Rattle.frac_core.specs.declared.decimal.Decimal.{Decimal}
use Rattle.op_trees.specs.declared.tree.Expr.{Expr}
use Rattle.op_trees.specs.declared.tree.Expr.TheVariants as E

-- an expression over the operators O: each node has its offset, a name is its bytes
pub data Tree (O : Type 0) : Type 0 where
  Truth : ℕ → Bool → Tree O
  Number : ℕ → Decimal → Tree O
  Name : ℕ → List ℕ → Tree O
  One : ℕ → O → Tree O → Tree O
  Two : ℕ → O → Tree O → Tree O → Tree O
  Three : ℕ → O → Tree O → Tree O → Tree O → Tree O

-- the expression that the code holds
abbrev pub tree : {O : Type 0} → Expr O → Tree O
tree (E.Truth at b) = Truth at b
tree (E.Number at d) = Number at d
tree (E.Name at x) = Name at x
tree (E.One' at o p a) = One at o (tree a)
tree (E.Two' at o p a q b) = Two at o (tree a) (tree b)
tree (E.Three' at o p a q b r c) = Three at o (tree a) (tree b) (tree c)

-- the tree with every offset 0: two trees are the same where these are equal
abbrev pub bare : {O : Type 0} → Tree O → Tree O
bare (Truth at b) = Truth 0 b
bare (Number at d) = Number 0 d
bare (Name at x) = Name 0 x
bare (One at o a) = One 0 o (bare a)
bare (Two at o a b) = Two 0 o (bare a) (bare b)
bare (Three at o a b c) = Three 0 o (bare a) (bare b) (bare c)

-- the number of nodes
abbrev pub node_count : {O : Type 0} → Tree O → ℕ
node_count (Truth at b) = 1
node_count (Number at d) = 1
node_count (Name at x) = 1
node_count (One at o a) = node_count a + 1
node_count (Two at o a b) = node_count a + node_count b + 1
node_count (Three at o a b c) = node_count a + node_count b + node_count c + 1

-- the nodes on the longest way down: a leaf has 1
abbrev pub height_of : {O : Type 0} → Tree O → ℕ
height_of (Truth at b) = 1
height_of (Number at d) = 1
height_of (Name at x) = 1
height_of (One at o a) = height_of a + 1
height_of (Two at o a b) = max (height_of a) (height_of b) + 1
height_of (Three at o a b c) = max (height_of a) (max (height_of b) (height_of c)) + 1

-- a number that stands at 2^64 - 1 where it would pass that
abbrev pub capped : ℕ → ℕ
capped n = min n (2 ^ 64 - 1)

-- a fact of each name of a tree, and one of each literal
abbrev pub AllNames : {O : Type 0} → (List ℕ → Type 0) → Tree O → Type 0
AllNames P (Truth at b) = Unit {0}
AllNames P (Number at d) = Unit {0}
AllNames P (Name at x) = P x
AllNames P (One at o a) = AllNames P a
AllNames P (Two at o a b) = AllNames P a × AllNames P b
AllNames P (Three at o a b c) = AllNames P a × AllNames P b × AllNames P c

abbrev pub AllNumbers : {O : Type 0} → (Decimal → Type 0) → Tree O → Type 0
AllNumbers P (Truth at b) = Unit {0}
AllNumbers P (Number at d) = P d
AllNumbers P (Name at x) = Unit {0}
AllNumbers P (One at o a) = AllNumbers P a
AllNumbers P (Two at o a b) = AllNumbers P a × AllNumbers P b
AllNumbers P (Three at o a b c) = AllNumbers P a × AllNumbers P b × AllNumbers P c

-- a name that has a body is replaced by it
abbrev pub replaced : {O : Type 0} → Tree O → Option (Tree O) → Tree O
replaced t None = t
replaced t (Some b) = b

-- each name that has a body is replaced by it, once: what stands in a body stays
abbrev pub substituted : {O : Type 0} → (List ℕ → Option (Tree O)) → Tree O → Tree O
substituted bodies (Truth at b) = Truth at b
substituted bodies (Number at d) = Number at d
substituted bodies (Name at x) = replaced (Name at x) (bodies x)
substituted bodies (One at o a) = One at o (substituted bodies a)
substituted bodies (Two at o a b) = Two at o (substituted bodies a) (substituted bodies b)
substituted bodies (Three at o a b c) =
    Three at o (substituted bodies a) (substituted bodies b) (substituted bodies c)

-- each name that has a body is replaced by it, and each such name in the body likewise, to a depth
abbrev pub written_out : {O : Type 0} → (List ℕ → Option (Tree O)) → ℕ → Tree O → Tree O
written_out bodies zero t = t
written_out bodies (suc n) t = substituted (λ x. option_map (written_out bodies n) (bodies x)) t

-- each name is read through a map of names
abbrev pub renamed : {O : Type 0} → (List ℕ → List ℕ) → Tree O → Tree O
renamed new (Truth at b) = Truth at b
renamed new (Number at d) = Number at d
renamed new (Name at x) = Name at (new x)
renamed new (One at o a) = One at o (renamed new a)
renamed new (Two at o a b) = Two at o (renamed new a) (renamed new b)
renamed new (Three at o a b c) = Three at o (renamed new a) (renamed new b) (renamed new c)
