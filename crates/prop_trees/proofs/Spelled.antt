-- The canonical value of properties spells them; it has no key twice, and each of its numbers is in normal form where theirs are.
use Rattle.std.proofs.Common.{◌≡◌, ◌<◌, ℕ, refl, List, [], ◌∷◌, ◌++◌, Option, Some, None, map, length, codes}
use Rattle.std.specs.List.{AllByRecursion as Each}
use Rattle.op_trees.specs.Tree.{Truth, Number, Name as At, One, Two, Three, AllNames, AllNumbers}
use Rattle.jani_table.specs.declared.operator.JaniOp.{JaniOp}
use Rattle.jani_table.specs.Node.{Node, nodes_of}
use Rattle.jani_table.specs.Operators.{arity}
use Rattle.jani_tree.specs.Syntax.{Expression}
use Rattle.jani_tree.specs.Canonical.{HasOperands}
use Rattle.jani_tree.specs.Jani as jani
use Rattle.jani_tree.specs.Form.{IsNormal, NormalNode, NormalNodes, KeysOnce, KeysOnceInside}
use Rattle.jani_tree.proofs.Again.{op_again, kind_one, kind_two, kind_three}
use Rattle.prop_grammar.specs.Property.{Ask, greatest, least, bounded, greatest_reward, least_reward, Path, finally, globally, until, weak_until, finally_within, until_within}
use Rattle.prop_trees.specs.Trees.{Name, JaniProperty, Role, parts, ask_parts, path_parts}
use Rattle.prop_trees.specs.Names.{Meant, of_model, is_initial, is_deadlock, nothing, meant, IsMeant}
use Rattle.prop_trees.specs.Form.{IsFinally, AsksWell}
use Rattle.prop_trees.specs.JaniText.{name_node, expression_node, path_node, probability_node, reward_node, values_node, property_node, properties_node, structure_name, side_of, reached, IsName, IsExpression, IsPath, IsReward, IsValues, IsProperty, AreProperties}
use Rattle.basics.specs.Each.{each_parts}

-- ---- expressions

name_spelled : (at : ℕ) (x : Name) (m : Meant) → IsMeant m → IsName (name_node at x m) at x m
name_spelled at x (of_model y) h = refl
name_spelled at x is_initial h = (refl, refl)
name_spelled at x is_deadlock h = (refl, refl)
name_spelled at x nothing h = h

-- each node has its operands, and each name is such a one
abbrev pub IsSpellable : Expression → Type 0
IsSpellable e = HasOperands e × AllNames (λ x. IsMeant (meant x)) e

pub expression_spelled : (e : Expression) → HasOperands e → AllNames (λ x. IsMeant (meant x)) e → IsExpression (expression_node e) e
expression_spelled (Truth at b) h n = refl
expression_spelled (Number at d) h n = refl
expression_spelled (At at x) h n = name_spelled at x (meant x) n
expression_spelled (One at o a) h n = (record { offset = refl; op = op_again o; takes = kind_one o h.0 }, expression_spelled a h.1 n)
expression_spelled (Two at o a b) h n =
    (record { offset = refl; op = op_again o; takes = kind_two o h.0 }, expression_spelled a h.1 n.0, expression_spelled b h.2 n.1)
expression_spelled (Three at o a b c) h n =
    (record { offset = refl; op = op_again o; takes = kind_three o h.0 }, expression_spelled a h.1 n.0, expression_spelled b h.2 n.1, expression_spelled c h.3 n.2)

spelled : (e : Expression) → IsSpellable e → IsExpression (expression_node e) e
spelled e h = expression_spelled e h.0 h.1

-- ---- paths and queries

abbrev pub OfParts : List (Role × Expression) → Type 0
OfParts xs = Each (λ x. IsSpellable x.1) xs

path_spelled : (p : Path Expression) → OfParts (path_parts p) → IsPath (path_node p) p
path_spelled (finally e) h = (refl, spelled e h.0, refl)
path_spelled (globally e) h = (refl, spelled e h.0, refl)
path_spelled (until a b) h = (refl, spelled a h.0, spelled b h.1.0, refl)
path_spelled (weak_until a b) h = (refl, spelled a h.0, spelled b h.1.0, refl)
path_spelled (finally_within k e) h = (refl, spelled e h.1.0, spelled k h.0)
path_spelled (until_within k a b) h = (refl, spelled a h.1.0, spelled b h.1.1.0, spelled k h.0)

reward_spelled : (rewards : List Name) (op : Name) (r count : ℕ) (p : Path Expression) → (r < count) × IsFinally p → OfParts (path_parts p) →
    IsReward rewards op (reward_node op (structure_name rewards r) p) r p
reward_spelled rewards op r count (finally e) w h = (refl, refl, spelled e h.0)
reward_spelled rewards op r count (globally e) w h = absurd w.1
reward_spelled rewards op r count (until a b) w h = absurd w.1
reward_spelled rewards op r count (weak_until a b) w h = absurd w.1
reward_spelled rewards op r count (finally_within k e) w h = absurd w.1
reward_spelled rewards op r count (until_within k a b) w h = absurd w.1

values_spelled : (rewards : List Name) (count : ℕ) (a : Ask Expression ℕ) (p : Path Expression) → AsksWell count a p → OfParts (ask_parts a) → OfParts (path_parts p) →
    IsValues rewards (values_node rewards a p) a p
values_spelled rewards count greatest p w g h = (refl, path_spelled p h)
values_spelled rewards count least p w g h = (refl, path_spelled p h)
values_spelled rewards count (bounded c e) p w g h = (refl, (refl, path_spelled p h), spelled e g.0)
values_spelled rewards count (greatest_reward r) p w g h = reward_spelled rewards (codes "Emax") r count p w h
values_spelled rewards count (least_reward r) p w g h = reward_spelled rewards (codes "Emin") r count p w h

-- ---- properties

-- it has a name, its expressions are such, and what it asks of rewards has a value
pub record IsWritable (count : ℕ) (p : JaniProperty) : Type 0 where
  pub name : Name
  pub named : p.name ≡ Some name
  pub expressions : OfParts (parts p)
  pub asks : AsksWell count p.ask p.path

property_parts : (rewards : List Name) (count : ℕ) (x : Name) (a : Ask Expression ℕ) (p : Path Expression) → OfParts (ask_parts a ++ path_parts p) → AsksWell count a p →
    let q : JaniProperty = record { name = Some x; ask = a; path = p } in IsProperty rewards (property_node rewards q) q
property_parts rewards count x a p h w = let r = each_parts (λ y. IsSpellable y.1) (ask_parts a) (path_parts p) h in record { name = refl; values = values_spelled rewards count a p w r.0 r.1 }

property_spelled : (rewards : List Name) (count : ℕ) (p : JaniProperty) → IsWritable count p → IsProperty rewards (property_node rewards p) p
property_spelled rewards count p h = named p.name h.named
  where
    named : (n : Option Name) → n ≡ Some h.name → let q : JaniProperty = record { name = n; ask = p.ask; path = p.path } in IsProperty rewards (property_node rewards q) q
    named None e = absurd cc
    named (Some x) e = property_parts rewards count x p.ask p.path h.expressions h.asks

each_spelled : (rewards : List Name) (count : ℕ) (ps : List JaniProperty) → Each (IsWritable count) ps → jani.Each (IsProperty rewards) (nodes_of (map (property_node rewards) ps)) ps
each_spelled rewards count [] h = tt
each_spelled rewards count (p ∷ ps) h = (property_spelled rewards count p h.0, each_spelled rewards count ps h.1)

pub properties_spelled : (rewards : List Name) (count : ℕ) (ps : List JaniProperty) → Each (IsWritable count) ps → AreProperties rewards (properties_node rewards ps) ps
properties_spelled rewards count ps h = record { list = refl; items = each_spelled rewards count ps h }

-- ---- no key stands twice

name_once : (at : ℕ) (x : Name) (m : Meant) → KeysOnce (name_node at x m)
name_once at x (of_model y) = tt
name_once at x is_initial = (refl, tt, tt)
name_once at x is_deadlock = (refl, tt, tt)
name_once at x nothing = tt

expression_once : (e : Expression) → KeysOnce (expression_node e)
expression_once (Truth at b) = tt
expression_once (Number at d) = tt
expression_once (At at x) = name_once at x (meant x)
expression_once (One at o a) = (refl, tt, (refl, expression_once a, tt))
expression_once (Two at o a b) = (refl, tt, (refl, expression_once a, (refl, expression_once b, tt)))
expression_once (Three at o a b c) = (refl, tt, (refl, expression_once a, (refl, expression_once b, (refl, expression_once c, tt))))

path_once : (p : Path Expression) → KeysOnce (path_node p)
path_once (finally e) = (refl, tt, (refl, expression_once e, tt))
path_once (globally e) = (refl, tt, (refl, expression_once e, tt))
path_once (until a b) = (refl, tt, (refl, expression_once a, (refl, expression_once b, tt)))
path_once (weak_until a b) = (refl, tt, (refl, expression_once a, (refl, expression_once b, tt)))
path_once (finally_within k e) = (refl, tt, (refl, expression_once e, (refl, (refl, expression_once k, tt), tt)))
path_once (until_within k a b) = (refl, tt, (refl, expression_once a, (refl, expression_once b, (refl, (refl, expression_once k, tt), tt))))

reached_once : (p : Path Expression) → KeysOnce (reached p)
reached_once (finally e) = expression_once e
reached_once (globally e) = tt
reached_once (until a b) = tt
reached_once (weak_until a b) = tt
reached_once (finally_within k e) = tt
reached_once (until_within k a b) = tt

probability_once : (op : Name) (p : Path Expression) → KeysOnce (probability_node op p)
probability_once op p = (refl, tt, (refl, path_once p, tt))

reward_once : (op r : Name) (p : Path Expression) → KeysOnce (reward_node op r p)
reward_once op r p = (refl, tt, (refl, tt, (refl, (tt, (tt, tt)), (refl, reached_once p, tt))))

values_once : (rewards : List Name) (a : Ask Expression ℕ) (p : Path Expression) → KeysOnce (values_node rewards a p)
values_once rewards greatest p = probability_once (codes "Pmax") p
values_once rewards least p = probability_once (codes "Pmin") p
values_once rewards (bounded c e) p = (refl, tt, (refl, probability_once (side_of c) p, (refl, expression_once e, tt)))
values_once rewards (greatest_reward r) p = reward_once (codes "Emax") (structure_name rewards r) p
values_once rewards (least_reward r) p = reward_once (codes "Emin") (structure_name rewards r) p

property_once : (rewards : List Name) (p : JaniProperty) → KeysOnce (property_node rewards p)
property_once rewards p =
    (refl, tt, (refl, (refl, tt, (refl, tt, (refl, values_once rewards p.ask p.path, (refl, (refl, tt, tt), tt)))), tt))

each_once : (rewards : List Name) (ps : List JaniProperty) → KeysOnceInside (nodes_of (map (property_node rewards) ps))
each_once rewards [] = tt
each_once rewards (p ∷ ps) = (property_once rewards p, each_once rewards ps)

pub properties_once : (rewards : List Name) (ps : List JaniProperty) → KeysOnce (properties_node rewards ps)
properties_once rewards ps = each_once rewards ps

-- ---- numbers

name_normal : (at : ℕ) (x : Name) (m : Meant) → NormalNode (name_node at x m)
name_normal at x (of_model y) = tt
name_normal at x is_initial = (tt, tt)
name_normal at x is_deadlock = (tt, tt)
name_normal at x nothing = tt

expression_normal : (e : Expression) → AllNumbers IsNormal e → NormalNode (expression_node e)
expression_normal (Truth at b) h = tt
expression_normal (Number at d) h = h
expression_normal (At at x) h = name_normal at x (meant x)
expression_normal (One at o a) h = (tt, (expression_normal a h, tt))
expression_normal (Two at o a b) h = (tt, (expression_normal a h.0, (expression_normal b h.1, tt)))
expression_normal (Three at o a b c) h = (tt, (expression_normal a h.0, (expression_normal b h.1, (expression_normal c h.2, tt))))

abbrev pub NormalParts : List (Role × Expression) → Type 0
NormalParts xs = Each (λ x. AllNumbers IsNormal x.1) xs

path_normal : (p : Path Expression) → NormalParts (path_parts p) → NormalNode (path_node p)
path_normal (finally e) h = (tt, (expression_normal e h.0, tt))
path_normal (globally e) h = (tt, (expression_normal e h.0, tt))
path_normal (until a b) h = (tt, (expression_normal a h.0, (expression_normal b h.1.0, tt)))
path_normal (weak_until a b) h = (tt, (expression_normal a h.0, (expression_normal b h.1.0, tt)))
path_normal (finally_within k e) h = (tt, (expression_normal e h.1.0, ((expression_normal k h.0, tt), tt)))
path_normal (until_within k a b) h = (tt, (expression_normal a h.1.0, (expression_normal b h.1.1.0, ((expression_normal k h.0, tt), tt))))

reached_normal : (p : Path Expression) → NormalParts (path_parts p) → NormalNode (reached p)
reached_normal (finally e) h = expression_normal e h.0
reached_normal (globally e) h = tt
reached_normal (until a b) h = tt
reached_normal (weak_until a b) h = tt
reached_normal (finally_within k e) h = tt
reached_normal (until_within k a b) h = tt

reward_normal : (op r : Name) (p : Path Expression) → NormalParts (path_parts p) → NormalNode (reward_node op r p)
reward_normal op r p h = (tt, (tt, ((tt, (tt, tt)), (reached_normal p h, tt))))

values_normal : (rewards : List Name) (a : Ask Expression ℕ) (p : Path Expression) → NormalParts (ask_parts a) → NormalParts (path_parts p) → NormalNode (values_node rewards a p)
values_normal rewards greatest p g h = (tt, (path_normal p h, tt))
values_normal rewards least p g h = (tt, (path_normal p h, tt))
values_normal rewards (bounded c e) p g h = (tt, ((tt, (path_normal p h, tt)), (expression_normal e g.0, tt)))
values_normal rewards (greatest_reward r) p g h = reward_normal (codes "Emax") (structure_name rewards r) p h
values_normal rewards (least_reward r) p g h = reward_normal (codes "Emin") (structure_name rewards r) p h

property_normal : (rewards : List Name) (p : JaniProperty) → NormalParts (parts p) → NormalNode (property_node rewards p)
property_normal rewards p h =
    let r = each_parts (λ y. AllNumbers IsNormal y.1) (ask_parts p.ask) (path_parts p.path) h in
    (tt, ((tt, (tt, (values_normal rewards p.ask p.path r.0 r.1, ((tt, tt), tt)))), tt))

each_normal : (rewards : List Name) (ps : List JaniProperty) → Each (λ p. NormalParts (parts p)) ps → NormalNodes (nodes_of (map (property_node rewards) ps))
each_normal rewards [] h = tt
each_normal rewards (p ∷ ps) h = (property_normal rewards p h.0, each_normal rewards ps h.1)

pub properties_normal : (rewards : List Name) (ps : List JaniProperty) → Each (λ p. NormalParts (parts p)) ps → NormalNode (properties_node rewards ps)
properties_normal rewards ps h = each_normal rewards ps h
