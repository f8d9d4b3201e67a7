-- The names in an expression: where it begins, which names stand in it and where, and whether one of them is such a one.
use Rattle.std.specs.Prelude.{◌≡◌, ℕ, List, [], ◌∷◌, ◌++◌, Bool, false, ◌||◌, bytes_eq}
use Rattle.bridge_io.specs.declared.reason.Named.{Named}
use Rattle.op_trees.specs.Tree.{Tree, Truth, Number, Name, One, Two, Three}

-- the offset of its outermost node
abbrev pub offset_of : {O : Type 0} → Tree O → ℕ
offset_of (Truth at b) = at
offset_of (Number at d) = at
offset_of (Name at x) = at
offset_of (One at o a) = at
offset_of (Two at o a b) = at
offset_of (Three at o a b c) = at

-- the names in an expression, in order, where they stand
abbrev pub names_of : {O : Type 0} → Tree O → List Named
names_of (Truth at b) = []
names_of (Number at d) = []
names_of (Name at x) = record { name = x; at = at } ∷ []
names_of (One at o a) = names_of a
names_of (Two at o a b) = names_of a ++ names_of b
names_of (Three at o a b c) = names_of a ++ (names_of b ++ names_of c)

-- a name has these bytes
abbrev pub is_called : List ℕ → Named → Bool
is_called x n = bytes_eq n.name x

-- a name without the offset where it stands
abbrev pub bare_name : Named → Named
bare_name n = record { name = n.name; at = 0 }

-- some name in an expression is such a one
abbrev pub some_name : {O : Type 0} → (List ℕ → Bool) → Tree O → Bool
some_name is_such (Truth at b) = false
some_name is_such (Number at d) = false
some_name is_such (Name at x) = is_such x
some_name is_such (One at o a) = some_name is_such a
some_name is_such (Two at o a b) = some_name is_such a || some_name is_such b
some_name is_such (Three at o a b c) = some_name is_such a || (some_name is_such b || some_name is_such c)

-- each node has as many operands as its operator
abbrev pub HasOperands : {O : Type 0} → (O → ℕ) → Tree O → Type 0
HasOperands arity (Truth at b) = Unit {0}
HasOperands arity (Number at d) = Unit {0}
HasOperands arity (Name at x) = Unit {0}
HasOperands arity (One at o a) = (arity o ≡ 1) × HasOperands arity a
HasOperands arity (Two at o a b) = (arity o ≡ 2) × HasOperands arity a × HasOperands arity b
HasOperands arity (Three at o a b c) = (arity o ≡ 3) × HasOperands arity a × HasOperands arity b × HasOperands arity c
