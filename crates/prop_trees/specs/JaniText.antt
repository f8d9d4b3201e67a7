-- The JSON value of a property of a JANI file (jani-model specification, version 1, "Properties" and property expressions), and which
-- value spells which property. Which forms there are, and the order of members in writing, is this project's own rule; in reading the
-- members of an object stand in any order. A name of the model stands in a tree with a point before it, and without it in a value.
use Rattle.std.specs.Prelude.{◌≡◌, ℕ, List, [], ◌∷◌, map, codes, Option, Some, None, IsSomeAnd, get_or, unwrap_or}
use Rattle.bridge_io.specs.declared.reason.Named.{Named}
use Rattle.op_trees.specs.Tree.{Truth, Number, Name as At, One, Two, Three}
use Rattle.jani_table.specs.declared.operator.JaniOp.{JaniOp}
use Rattle.jani_table.specs.declared.operator.JaniOp.TheVariants as O
use Rattle.jani_table.specs.declared.table.Kind.TheVariants as L
use Rattle.jani_table.specs.Node.{Node, null, truth, number, text, array, object, nodes_of, fields_of, at_of}
use Rattle.jani_table.specs.Operators.{op_text}
use Rattle.jani_table.specs.Faults.{member_text, members_in}
use Rattle.jani_tree.specs.Syntax.{Expression}
use Rattle.jani_tree.specs.Canonical.{list_node, word}
use Rattle.jani_tree.specs.Jani.{IsItems, IsOperation, IsText}
use Rattle.prop_grammar.specs.declared.syntax.Compare.{Compare}
use Rattle.prop_grammar.specs.declared.syntax.Compare.TheVariants as C
use Rattle.prop_grammar.specs.Property.{Ask, greatest, least, bounded, greatest_reward, least_reward, Path, finally, globally, until, weak_until, finally_within, until_within}
use Rattle.prop_trees.specs.Trees.{Name, JaniProperty}
use Rattle.prop_trees.specs.Names.{Meant, of_model, is_initial, is_deadlock, nothing, meant}

-- ---- objects

abbrev pub key : Name → Named
key k = record { name = k; at = 0 }

-- an object at this offset, with these members at 0
abbrev pub object_at : ℕ → List (Name × Node) → Node
object_at at ms = object at (fields_of (map (λ m. (key m.0, m.1)) ms)) 0

abbrev pub op_word : Name → Name × Node
op_word s = (codes "op", word s)

-- ---- words

-- for all
abbrev pub for_all : Name
for_all = 0xe2 ∷ 0x88 ∷ 0x80 ∷ []

abbrev pub compared_by : Compare → JaniOp
compared_by C.Less = O.Less
compared_by C.AtMost = O.AtMost
compared_by C.AtLeast = O.AtLeast
compared_by C.Greater = O.Greater

-- A bound from below is one of the least probability, a bound from above one of the greatest.
abbrev pub side_of : Compare → Name
side_of C.Less = codes "Pmax"
side_of C.AtMost = codes "Pmax"
side_of C.AtLeast = codes "Pmin"
side_of C.Greater = codes "Pmin"

-- ---- expressions: as in a model, but that the two labels that every model has are objects

abbrev pub name_node : ℕ → Name → Meant → Node
name_node at x (of_model y) = text at y
name_node at x is_initial = object_at at (op_word (codes "initial") ∷ [])
name_node at x is_deadlock = object_at at (op_word (codes "deadlock") ∷ [])
name_node at x nothing = text at x

abbrev pub expression_node : Expression → Node
expression_node (Truth at b) = truth at b
expression_node (Number at d) = number at d
expression_node (At at x) = name_node at x (meant x)
expression_node (One at o a) = object_at at (op_word (op_text o) ∷ (codes "exp", expression_node a) ∷ [])
expression_node (Two at o a b) = object_at at (op_word (op_text o) ∷ (codes "left", expression_node a) ∷ (codes "right", expression_node b) ∷ [])
expression_node (Three at o a b c) =
    object_at at (op_word (op_text o) ∷ (codes "if", expression_node a) ∷ (codes "then", expression_node b) ∷ (codes "else", expression_node c) ∷ [])

-- ---- paths: a bound of steps stands last

abbrev pub bound_member : Expression → Name × Node
bound_member k = (codes "step-bounds", object_at 0 ((codes "upper", expression_node k) ∷ []))

abbrev pub one_path : Name → Expression → List (Name × Node) → Node
one_path op e rest = object_at 0 (op_word op ∷ (codes "exp", expression_node e) ∷ rest)

abbrev pub two_paths : Name → Expression → Expression → List (Name × Node) → Node
two_paths op a b rest = object_at 0 (op_word op ∷ (codes "left", expression_node a) ∷ (codes "right", expression_node b) ∷ rest)

abbrev pub path_node : Path Expression → Node
path_node (finally e) = one_path (codes "F") e []
path_node (globally e) = one_path (codes "G") e []
path_node (until a b) = two_paths (codes "U") a b []
path_node (weak_until a b) = two_paths (codes "W") a b []
path_node (finally_within k e) = one_path (codes "F") e (bound_member k ∷ [])
path_node (until_within k a b) = two_paths (codes "U") a b (bound_member k ∷ [])

-- ---- queries

abbrev pub probability_node : Name → Path Expression → Node
probability_node op p = object_at 0 (op_word op ∷ (codes "exp", path_node p) ∷ [])

-- what a query of rewards reaches; its path is of the form F e
abbrev pub reached : Path Expression → Node
reached (finally e) = expression_node e
reached (globally _) = null 0
reached (until _ _) = null 0
reached (weak_until _ _) = null 0
reached (finally_within _ _) = null 0
reached (until_within _ _ _) = null 0

-- rewards of steps, and of the states that are left
abbrev pub sums_node : Node
sums_node = array 0 (nodes_of (word (codes "steps") ∷ word (codes "exit") ∷ []))

abbrev pub reward_node : Name → Name → Path Expression → Node
reward_node op r p = object_at 0 (op_word op ∷ (codes "exp", word r) ∷ (codes "accumulate", sums_node) ∷ (codes "reach", reached p) ∷ [])

-- the name of the reward structure of a number, by the names of all
abbrev pub structure_name : List Name → ℕ → Name
structure_name names r = get_or names r []

abbrev pub values_node : List Name → Ask Expression ℕ → Path Expression → Node
values_node rewards greatest p = probability_node (codes "Pmax") p
values_node rewards least p = probability_node (codes "Pmin") p
values_node rewards (bounded c e) p =
    object_at 0 (op_word (op_text (compared_by c)) ∷ (codes "left", probability_node (side_of c) p) ∷ (codes "right", expression_node e) ∷ [])
values_node rewards (greatest_reward r) p = reward_node (codes "Emax") (structure_name rewards r) p
values_node rewards (least_reward r) p = reward_node (codes "Emin") (structure_name rewards r) p

abbrev pub fun_of : {E : Type 0} → Ask E ℕ → Name
fun_of greatest = codes "max"
fun_of least = codes "min"
fun_of (bounded c e) = for_all
fun_of (greatest_reward r) = codes "max"
fun_of (least_reward r) = codes "min"

-- what holds of the values at the initial states
abbrev pub filter_node : Name → Node → Node
filter_node fun values =
    object_at 0 (op_word (codes "filter") ∷ (codes "fun", word fun) ∷ (codes "values", values) ∷ (codes "states", object_at 0 (op_word (codes "initial") ∷ [])) ∷ [])

-- a property of a model whose reward structures have these names
abbrev pub property_node : List Name → JaniProperty → Node
property_node rewards p = object_at 0
    ((codes "name", word (unwrap_or p.name [])) ∷ (codes "expression", filter_node (fun_of p.ask) (values_node rewards p.ask p.path)) ∷ [])

abbrev pub properties_node : List Name → List JaniProperty → Node
properties_node rewards ps = list_node (property_node rewards) 0 ps

-- ---- which value spells which property

abbrev pub part : Name → Node → Option Node
part k v = member_text k (members_in v)

-- the value has a member with this key, of which this holds
abbrev pub Is : Name → Node → (Node → Type 0) → Type 0
Is k v P = IsSomeAnd (part k v) P

abbrev pub HasOp : Name → Node → Type 0
HasOp s v = Is (codes "op") v (λ w. IsText w s)

abbrev pub IsName : Node → ℕ → Name → Meant → Type 0
IsName v at x (of_model y) = v ≡ text at y
IsName v at x is_initial = HasOp (codes "initial") v × (at_of v ≡ at)
IsName v at x is_deadlock = HasOp (codes "deadlock") v × (at_of v ≡ at)
IsName v at x nothing = ⊥

abbrev pub IsExpression : Node → Expression → Type 0
IsExpression v (Truth at b) = v ≡ truth at b
IsExpression v (Number at d) = v ≡ number at d
IsExpression v (At at x) = IsName v at x (meant x)
IsExpression v (One at o a) = IsOperation v at o L.Unary × Is (codes "exp") v (λ w. IsExpression w a)
IsExpression v (Two at o a b) = IsOperation v at o L.Binary × Is (codes "left") v (λ w. IsExpression w a) × Is (codes "right") v (λ w. IsExpression w b)
IsExpression v (Three at o a b c) =
    IsOperation v at o L.Choice × Is (codes "if") v (λ w. IsExpression w a) × Is (codes "then") v (λ w. IsExpression w b) × Is (codes "else") v (λ w. IsExpression w c)

-- a bound of steps, or none
abbrev pub IsBound : Node → Option Expression → Type 0
IsBound v None = part (codes "step-bounds") v ≡ None
IsBound v (Some k) = Is (codes "step-bounds") v (λ w. Is (codes "upper") w (λ u. IsExpression u k))

abbrev pub IsOnePath : Name → Node → Expression → Option Expression → Type 0
IsOnePath op v e k = HasOp op v × Is (codes "exp") v (λ w. IsExpression w e) × IsBound v k

abbrev pub IsTwoPaths : Name → Node → Expression → Expression → Option Expression → Type 0
IsTwoPaths op v a b k = HasOp op v × Is (codes "left") v (λ w. IsExpression w a) × Is (codes "right") v (λ w. IsExpression w b) × IsBound v k

abbrev pub IsPath : Node → Path Expression → Type 0
IsPath v (finally e) = IsOnePath (codes "F") v e None
IsPath v (globally e) = IsOnePath (codes "G") v e None
IsPath v (until a b) = IsTwoPaths (codes "U") v a b None
IsPath v (weak_until a b) = IsTwoPaths (codes "W") v a b None
IsPath v (finally_within k e) = IsOnePath (codes "F") v e (Some k)
IsPath v (until_within k a b) = IsTwoPaths (codes "U") v a b (Some k)

abbrev pub IsReached : Node → Path Expression → Type 0
IsReached v (finally e) = IsExpression v e
IsReached v (globally _) = ⊥
IsReached v (until _ _) = ⊥
IsReached v (weak_until _ _) = ⊥
IsReached v (finally_within _ _) = ⊥
IsReached v (until_within _ _ _) = ⊥

abbrev pub IsProbability : Name → Node → Path Expression → Type 0
IsProbability op v p = HasOp op v × Is (codes "exp") v (λ w. IsPath w p)

abbrev pub IsReward : List Name → Name → Node → ℕ → Path Expression → Type 0
IsReward rewards op v r p = HasOp op v × Is (codes "exp") v (λ w. IsText w (structure_name rewards r)) × Is (codes "reach") v (λ w. IsReached w p)

-- what the values of a filter ask
abbrev pub IsValues : List Name → Node → Ask Expression ℕ → Path Expression → Type 0
IsValues rewards v greatest p = IsProbability (codes "Pmax") v p
IsValues rewards v least p = IsProbability (codes "Pmin") v p
IsValues rewards v (bounded c e) p =
    HasOp (op_text (compared_by c)) v × Is (codes "left") v (λ w. IsProbability (side_of c) w p) × Is (codes "right") v (λ w. IsExpression w e)
IsValues rewards v (greatest_reward r) p = IsReward rewards (codes "Emax") v r p
IsValues rewards v (least_reward r) p = IsReward rewards (codes "Emin") v r p

-- each property of a JANI file has a name
abbrev pub IsTitle : Node → Option Name → Type 0
IsTitle v None = ⊥
IsTitle v (Some x) = IsText v x

-- The value spells the property. Where its faults are empty, what it does not say here is of no meaning.
pub record IsProperty (rewards : List Name) (v : Node) (p : JaniProperty) : Type 0 where
  pub name : Is (codes "name") v (λ w. IsTitle w p.name)
  pub values : Is (codes "expression") v (λ f. Is (codes "values") f (λ w. IsValues rewards w p.ask p.path))

abbrev pub AreProperties : List Name → Node → List JaniProperty → Type 0
AreProperties rewards v ps = IsItems (IsProperty rewards) v ps
