-- What a value spells, another spells that is the same but for its places: the same properties, at its places, as they are written.
use Rattle.std.proofs.Common.{◌≡◌, ℕ, refl, sym, ap, ap₂, subst, ◌∙◌, List, [], ◌∷◌, Option, Some, None, Bool, codes}
use Rattle.std.specs.Prelude.{IsSomeAnd, IsTrue}
use Rattle.std.specs.List.{AllZip}
use Rattle.std.specs.Option.{option_map}
use Rattle.bridge_io.specs.declared.reason.Named.{Named}
use Rattle.frac_core.specs.declared.decimal.Decimal.{Decimal}
use Rattle.op_trees.specs.Tree.{Truth, Number, Name as At, One, Two, Three, bare}
use Rattle.jani_table.specs.declared.operator.JaniOp.{JaniOp}
use Rattle.jani_table.specs.declared.table.Kind.{Kind}
use Rattle.jani_table.specs.Node.{Node, null, truth, number, text, array, object, Nodes, no_nodes, more_nodes, at_of}
use Rattle.jani_table.specs.Operators.{op_text}
use Rattle.jani_table.specs.Faults.{op_in, is_array, items_in}
use Rattle.jani_tree.specs.Syntax.{Expression}
use Rattle.jani_tree.specs.Jani as jani
use Rattle.jani_tree.specs.Jani.{IsItems, IsNamed, IsOperation, IsText}
use Rattle.jani_tree.specs.Places.{bare_node, bare_nodes}
use Rattle.jani_tree.proofs.Bare.{member_bare, op_bare}
use Rattle.prop_grammar.specs.Property.{Ask, greatest, least, bounded, greatest_reward, least_reward, Path, finally, globally, until, weak_until, finally_within, until_within}
use Rattle.prop_trees.specs.Trees.{Name, JaniProperty, ask_with, path_with}
use Rattle.prop_trees.specs.Names.{Meant, of_model, is_initial, is_deadlock, nothing, meant}
use Rattle.prop_trees.specs.JaniText.{part, Is, HasOp, IsName, IsExpression, IsPath, IsReached, IsProbability, IsValues, IsTitle, IsProperty, AreProperties, structure_name, side_of, compared_by}
use Rattle.jani_props.specs.Syntax.{Written}
use Rattle.jani_props.specs.Spelled.{IsAsked, IsTitled, IsWritten, AreWritten}

-- ---- parts

part-bare : (k : Name) (v : Node) → part k (bare_node v) ≡ option_map bare_node (part k v)
part-bare k (object at ms close) = member_bare k ms
part-bare k (null at) = refl
part-bare k (truth at b) = refl
part-bare k (number at d) = refl
part-bare k (text at s) = refl
part-bare k (array at vs) = refl

-- the same part of the same value
same_part : (k : Name) (v w : Node) → bare_node v ≡ bare_node w → option_map bare_node (part k v) ≡ option_map bare_node (part k w)
same_part k v w e = sym (part-bare k v) ∙ ap (part k) e ∙ part-bare k w

-- what something is found for, of a value that is the same, is found for it too
lifted : {B : Type 0} (P : Node → Type 0) (R : B → Type 0) (Q : Node → B → Type 0) (o p : Option Node) → option_map bare_node o ≡ option_map bare_node p →
    ((x y : Node) → bare_node x ≡ bare_node y → P y → (d : B) × R d × Q x d) → IsSomeAnd p P → (d : B) × R d × IsSomeAnd o (λ u. Q u d)
lifted P R Q None None e h i = absurd i
lifted P R Q (Some x) None e h i = absurd i
lifted P R Q None (Some y) e h i = absurd cc
lifted P R Q (Some x) (Some y) e h i = let same : bare_node x ≡ bare_node y = cc in h x y same i

kept : (P Q : Node → Type 0) (o p : Option Node) → option_map bare_node o ≡ option_map bare_node p → ((x y : Node) → bare_node x ≡ bare_node y → P y → Q x) → IsSomeAnd p P → IsSomeAnd o Q
kept P Q None None e h i = absurd i
kept P Q (Some x) None e h i = absurd i
kept P Q None (Some y) e h i = absurd cc
kept P Q (Some x) (Some y) e h i = let same : bare_node x ≡ bare_node y = cc in h x y same i

none_too : (o p : Option Node) → option_map bare_node o ≡ option_map bare_node p → p ≡ None → o ≡ None
none_too None p e h = refl
none_too (Some x) None e h = absurd cc
none_too (Some x) (Some y) e h = absurd cc

-- ---- texts, truth values and numbers

text_at : (v : Node) (s : Name) → bare_node v ≡ text 0 s → (at : ℕ) × (v ≡ text at s)
text_at (text at t) s e = let same : t ≡ s = cc in (at, ap (text at) same)
text_at (null at) s e = absurd cc
text_at (truth at b) s e = absurd cc
text_at (number at d) s e = absurd cc
text_at (array at vs) s e = absurd cc
text_at (object at ms close) s e = absurd cc

truth_at : (v : Node) (b : Bool) → bare_node v ≡ truth 0 b → (at : ℕ) × (v ≡ truth at b)
truth_at (truth at c) b e = let same : c ≡ b = cc in (at, ap (truth at) same)
truth_at (null at) b e = absurd cc
truth_at (text at s) b e = absurd cc
truth_at (number at d) b e = absurd cc
truth_at (array at vs) b e = absurd cc
truth_at (object at ms close) b e = absurd cc

number_at : (v : Node) (d : Decimal) → bare_node v ≡ number 0 d → (at : ℕ) × (v ≡ number at d)
number_at (number at c) d e = let same : c ≡ d = cc in (at, ap (number at) same)
number_at (null at) d e = absurd cc
number_at (truth at b) d e = absurd cc
number_at (text at s) d e = absurd cc
number_at (array at vs) d e = absurd cc
number_at (object at ms close) d e = absurd cc

array_at : (v : Node) (us : Nodes) → bare_node v ≡ array 0 us → IsTrue (is_array v) × (bare_nodes (items_in v) ≡ us)
array_at (array at vs) us e = let same : bare_nodes vs ≡ us = cc in (refl, same)
array_at (null at) us e = absurd cc
array_at (truth at b) us e = absurd cc
array_at (number at d) us e = absurd cc
array_at (text at s) us e = absurd cc
array_at (object at ms close) us e = absurd cc

text_of : (w : Node) (s : Name) → IsText w s → bare_node w ≡ text 0 s
text_of (text at t) s i = ap (text 0) i
text_of (null at) s i = absurd i
text_of (truth at b) s i = absurd i
text_of (number at d) s i = absurd i
text_of (array at vs) s i = absurd i
text_of (object at ms close) s i = absurd i

text_too : (s : Name) (v w : Node) → bare_node v ≡ bare_node w → IsText w s → IsText v s
text_too s v w e i = let t = text_at v s (e ∙ text_of w s i) in subst (λ u. IsText u s) (sym t.1) refl

-- a text as a name with its place
named_too : (s : Name) (v w : Node) → bare_node v ≡ bare_node w → IsText w s → (n : Named) × (n.name ≡ s) × IsNamed v n
named_too s v w e i = let t = text_at v s (e ∙ text_of w s i) in (record { name = s; at = t.0 }, refl, t.1)

-- ---- operators and names

op_too : (s : Name) (v w : Node) → bare_node v ≡ bare_node w → HasOp s w → HasOp s v
op_too s v w e i = kept (λ u. IsText u s) (λ u. IsText u s) (part (codes "op") v) (part (codes "op") w) (same_part (codes "op") v w e) (text_too s) i

operation_too : (v w : Node) (at : ℕ) (o : JaniOp) (k : Kind) → bare_node v ≡ bare_node w → IsOperation w at o k → IsOperation v (at_of v) o k
operation_too v w at o k e i = record {
  offset = refl;
  op = sym (op_bare (part (codes "op") v)) ∙ ap op_in (same_part (codes "op") v w e) ∙ op_bare (part (codes "op") w) ∙ i.op;
  takes = i.takes;
}

name_too : (v w : Node) (at : ℕ) (x : Name) (m : Meant) → bare_node v ≡ bare_node w → IsName w at x m → (b : ℕ) × IsName v b x m
name_too v w at x (of_model y) e i = text_at v y (e ∙ ap bare_node i)
name_too v w at x is_initial e i = (at_of v, (op_too (codes "initial") v w e i.0, refl))
name_too v w at x is_deadlock e i = (at_of v, (op_too (codes "deadlock") v w e i.0, refl))
name_too v w at x nothing e i = absurd i

-- ---- expressions

-- the expression at the places of the value
abbrev FoundAt : Node → Expression → Type 0
FoundAt v e = (d : Expression) × (bare d ≡ bare e) × IsExpression v d

abbrev InPart : Name → Node → Expression → Type 0
InPart k v e = (d : Expression) × (bare d ≡ bare e) × Is k v (λ u. IsExpression u d)

in_part : (k : Name) (v w : Node) (a : Expression) → bare_node v ≡ bare_node w → ((x y : Node) → bare_node x ≡ bare_node y → IsExpression y a → FoundAt x a) → Is k w (λ u. IsExpression u a) → InPart k v a
in_part k v w a e h i = lifted (λ u. IsExpression u a) (λ d. bare d ≡ bare a) IsExpression (part k v) (part k w) (same_part k v w e) h i

expression_too : (e : Expression) (v w : Node) → bare_node v ≡ bare_node w → IsExpression w e → FoundAt v e
expression_too (Truth at b) v w e i = let t = truth_at v b (e ∙ ap bare_node i) in (Truth t.0 b, refl, t.1)
expression_too (Number at d) v w e i = let t = number_at v d (e ∙ ap bare_node i) in (Number t.0 d, refl, t.1)
expression_too (At at x) v w e i = let t = name_too v w at x (meant x) e i in (At t.0 x, refl, t.1)
expression_too (One at o a) v w e i =
    let r = in_part (codes "exp") v w a e (λ x y f j. expression_too a x y f j) i.1 in
    (One (at_of v) o r.0, ap (One 0 o) r.1, (operation_too v w at o _ e i.0, r.2))
expression_too (Two at o a b) v w e i =
    let r = in_part (codes "left") v w a e (λ x y f j. expression_too a x y f j) i.1 in
    let s = in_part (codes "right") v w b e (λ x y f j. expression_too b x y f j) i.2 in
    (Two (at_of v) o r.0 s.0, ap₂ (Two 0 o) r.1 s.1, (operation_too v w at o _ e i.0, r.2, s.2))
expression_too (Three at o a b c) v w e i =
    let r = in_part (codes "if") v w a e (λ x y f j. expression_too a x y f j) i.1 in
    let s = in_part (codes "then") v w b e (λ x y f j. expression_too b x y f j) i.2 in
    let t = in_part (codes "else") v w c e (λ x y f j. expression_too c x y f j) i.3 in (
      Three (at_of v) o r.0 s.0 t.0,
      ap₂ {B = Expression → Expression} (λ x k. k x) r.1 (ap₂ (λ y z x. Three 0 o x y z) s.1 t.1),
      (operation_too v w at o _ e i.0, r.2, s.2, t.2),
    )

-- ---- paths

of_part : (k : Name) (v w : Node) (a : Expression) → bare_node v ≡ bare_node w → Is k w (λ u. IsExpression u a) → InPart k v a
of_part k v w a e i = in_part k v w a e (λ x y f j. expression_too a x y f j) i

no_bound : (v w : Node) → bare_node v ≡ bare_node w → part (codes "step-bounds") w ≡ None → part (codes "step-bounds") v ≡ None
no_bound v w e i = none_too (part (codes "step-bounds") v) (part (codes "step-bounds") w) (same_part (codes "step-bounds") v w e) i

a_bound : (v w : Node) (k : Expression) → bare_node v ≡ bare_node w → Is (codes "step-bounds") w (λ u. Is (codes "upper") u (λ x. IsExpression x k)) →
    (d : Expression) × (bare d ≡ bare k) × Is (codes "step-bounds") v (λ u. Is (codes "upper") u (λ x. IsExpression x d))
a_bound v w k e i =
    lifted (λ u. Is (codes "upper") u (λ x. IsExpression x k)) (λ d. bare d ≡ bare k) (λ u d. Is (codes "upper") u (λ x. IsExpression x d))
    (part (codes "step-bounds") v) (part (codes "step-bounds") w) (same_part (codes "step-bounds") v w e) (λ x y f j. of_part (codes "upper") x y k f j) i

abbrev PathAt : (Node → Path Expression → Type 0) → Node → Path Expression → Type 0
PathAt P v p = (q : Path Expression) × (path_with bare q ≡ path_with bare p) × P v q

path_too : (p : Path Expression) (v w : Node) → bare_node v ≡ bare_node w → IsPath w p → PathAt IsPath v p
path_too (finally a) v w e i =
    let r = of_part (codes "exp") v w a e i.1 in
    (finally r.0, ap (λ x. finally x) r.1, (op_too (codes "F") v w e i.0, r.2, no_bound v w e i.2))
path_too (globally a) v w e i =
    let r = of_part (codes "exp") v w a e i.1 in
    (globally r.0, ap (λ x. globally x) r.1, (op_too (codes "G") v w e i.0, r.2, no_bound v w e i.2))
path_too (until a b) v w e i =
    let r = of_part (codes "left") v w a e i.1 in
    let s = of_part (codes "right") v w b e i.2 in
    (until r.0 s.0, ap₂ (λ x y. until x y) r.1 s.1, (op_too (codes "U") v w e i.0, r.2, s.2, no_bound v w e i.3))
path_too (weak_until a b) v w e i =
    let r = of_part (codes "left") v w a e i.1 in
    let s = of_part (codes "right") v w b e i.2 in
    (weak_until r.0 s.0, ap₂ (λ x y. weak_until x y) r.1 s.1, (op_too (codes "W") v w e i.0, r.2, s.2, no_bound v w e i.3))
path_too (finally_within k a) v w e i =
    let r = of_part (codes "exp") v w a e i.1 in
    let t = a_bound v w k e i.2 in
    (finally_within t.0 r.0, ap₂ (λ x y. finally_within x y) t.1 r.1, (op_too (codes "F") v w e i.0, r.2, t.2))
path_too (until_within k a b) v w e i =
    let r = of_part (codes "left") v w a e i.1 in
    let s = of_part (codes "right") v w b e i.2 in
    let t = a_bound v w k e i.3 in (
      until_within t.0 r.0 s.0,
      ap₂ {B = Expression → Path Expression} (λ x k. k x) t.1 (ap₂ (λ y z x. until_within x y z) r.1 s.1),
      (op_too (codes "U") v w e i.0, r.2, s.2, t.2),
    )

reached_too : (p : Path Expression) (v w : Node) → bare_node v ≡ bare_node w → IsReached w p → PathAt IsReached v p
reached_too (finally a) v w e i = let r = expression_too a v w e i in (finally r.0, ap (λ x. finally x) r.1, r.2)
reached_too (globally a) v w e i = absurd i
reached_too (until a b) v w e i = absurd i
reached_too (weak_until a b) v w e i = absurd i
reached_too (finally_within k a) v w e i = absurd i
reached_too (until_within k a b) v w e i = absurd i

-- ---- what is asked

probability_too : (s : Name) (p : Path Expression) (v w : Node) → bare_node v ≡ bare_node w → IsProbability s w p → PathAt (IsProbability s) v p
probability_too s p v w e i =
    let r = lifted (λ u. IsPath u p) (λ q. path_with bare q ≡ path_with bare p) IsPath (part (codes "exp") v) (part (codes "exp") w) (same_part (codes "exp") v w e) (λ x y f j. path_too p x y f j) i.1 in
    (r.0, r.1, (op_too s v w e i.0, r.2))

module _ (rewards : List Name) where
  -- the same is asked, of the structure's name, and of the same paths
  pub record AsksSame (a : Ask Expression ℕ) (p : Path Expression) (b : Ask Expression Named × Path Expression) : Type 0 where
    pub ask : ask_with bare (λ (n : Named). n.name) b.0 ≡ ask_with bare (structure_name rewards) a
    pub path : path_with bare b.1 ≡ path_with bare p

  abbrev AskAt : Node → Ask Expression ℕ → Path Expression → Type 0
  AskAt v a p = (b : Ask Expression Named × Path Expression) × AsksSame a p b × IsAsked v b.0 b.1

  -- the name of the structure, and what is reached
  reward_too : (s : Name) (r : ℕ) (p : Path Expression) (v w : Node) → bare_node v ≡ bare_node w →
      HasOp s w × Is (codes "exp") w (λ u. IsText u (structure_name rewards r)) × Is (codes "reach") w (λ u. IsReached u p) →
      (b : Named × Path Expression) × ((b.0.name ≡ structure_name rewards r) × (path_with bare b.1 ≡ path_with bare p))
      × (HasOp s v × Is (codes "exp") v (λ u. IsNamed u b.0) × Is (codes "reach") v (λ u. IsReached u b.1))
  reward_too s r p v w e i =
      let n = lifted (λ u. IsText u (structure_name rewards r)) (λ n. n.name ≡ structure_name rewards r) IsNamed (part (codes "exp") v) (part (codes "exp") w) (same_part (codes "exp") v w e)
      (named_too (structure_name rewards r)) i.1 in
      let q = lifted (λ u. IsReached u p) (λ q. path_with bare q ≡ path_with bare p) IsReached (part (codes "reach") v) (part (codes "reach") w) (same_part (codes "reach") v w e)
      (λ x y f j. reached_too p x y f j) i.2 in
      ((n.0, q.0), (n.1, q.1), (op_too s v w e i.0, n.2, q.2))

  asked_too : (a : Ask Expression ℕ) (p : Path Expression) (v w : Node) → bare_node v ≡ bare_node w → IsValues rewards w a p → AskAt v a p
  asked_too greatest p v w e i = let r = probability_too (codes "Pmax") p v w e i in ((greatest, r.0), record { ask = refl; path = r.1 }, r.2)
  asked_too least p v w e i = let r = probability_too (codes "Pmin") p v w e i in ((least, r.0), record { ask = refl; path = r.1 }, r.2)
  asked_too (bounded c b) p v w e i =
      let r = lifted (λ u. IsProbability (side_of c) u p) (λ q. path_with bare q ≡ path_with bare p) (λ u q. IsProbability (side_of c) u q) (part (codes "left") v) (part (codes "left") w)
      (same_part (codes "left") v w e) (λ x y f j. probability_too (side_of c) p x y f j) i.1 in
      let s = of_part (codes "right") v w b e i.2 in
      ((bounded c s.0, r.0), record { ask = ap (λ x. bounded c x) s.1; path = r.1 }, (op_too (op_text (compared_by c)) v w e i.0, r.2, s.2))
  asked_too (greatest_reward n) p v w e i =
      let r = reward_too (codes "Emax") n p v w e i in ((greatest_reward r.0.0, r.0.1), record { ask = ap (λ x. greatest_reward x) r.1.0; path = r.1.1 }, r.2)
  asked_too (least_reward n) p v w e i =
      let r = reward_too (codes "Emin") n p v w e i in ((least_reward r.0.0, r.0.1), record { ask = ap (λ x. least_reward x) r.1.0; path = r.1.1 }, r.2)

  -- ---- properties

  title_too : (o : Option Name) (v w : Node) → bare_node v ≡ bare_node w → IsTitle w o → (n : Option Named) × (option_map (λ n. n.name) n ≡ o) × IsTitled v n
  title_too None v w e i = absurd i
  title_too (Some x) v w e i = let r = named_too x v w e i in (Some r.0, ap (λ y. Some y) r.1, r.2)

  -- a written property is this one, places aside
  pub record IsSame (q : JaniProperty) (p : Written) : Type 0 where
    pub name : option_map (λ n. n.name) p.name ≡ q.name
    pub asks : AsksSame q.ask q.path (p.ask, p.path)

  property_too : (q : JaniProperty) (v w : Node) → bare_node v ≡ bare_node w → IsProperty rewards w q → (p : Written) × IsSame q p × IsWritten v p
  property_too q v w e i =
      let n = lifted (λ u. IsTitle u q.name) (λ n. option_map (λ n. n.name) n ≡ q.name) IsTitled (part (codes "name") v) (part (codes "name") w) (same_part (codes "name") v w e) (title_too q.name) i.name in
      let r = lifted (λ f. Is (codes "values") f (λ u. IsValues rewards u q.ask q.path)) (AsksSame q.ask q.path) (λ f b. Is (codes "values") f (λ u. IsAsked u b.0 b.1))
      (part (codes "expression") v) (part (codes "expression") w) (same_part (codes "expression") v w e)
      (λ f g h j. lifted (λ u. IsValues rewards u q.ask q.path) (AsksSame q.ask q.path) (λ u b. IsAsked u b.0 b.1) (part (codes "values") f) (part (codes "values") g) (same_part (codes "values") f g h)
      (asked_too q.ask q.path) j) i.values in
      (record { name = n.0; ask = r.0.0; path = r.0.1 }, record { name = n.1; asks = record { ask = r.1.ask; path = r.1.path } }, record { name = n.2; values = r.2 })

  items_too : (vs us : Nodes) (qs : List JaniProperty) → bare_nodes vs ≡ bare_nodes us → jani.Each (IsProperty rewards) us qs → (ps : List Written) × AllZip IsSame qs ps × jani.Each IsWritten vs ps
  items_too no_nodes no_nodes [] e i = ([], tt, tt)
  items_too (more_nodes v vs) (more_nodes u us) (q ∷ qs) e i =
      let here : bare_node v ≡ bare_node u = cc in
      let there : bare_nodes vs ≡ bare_nodes us = cc in
      let r = property_too q v u here i.0 in
      let s = items_too vs us qs there i.1 in
      (r.0 ∷ s.0, (r.1, s.1), (r.2, s.2))
  items_too no_nodes no_nodes (q ∷ qs) e i = absurd i
  items_too no_nodes (more_nodes u us) qs e i = absurd cc
  items_too (more_nodes v vs) no_nodes qs e i = absurd cc
  items_too (more_nodes v vs) (more_nodes u us) [] e i = absurd i

  array_of : (w : Node) → IsTrue (is_array w) → bare_node w ≡ array 0 (bare_nodes (items_in w))
  array_of (array at vs) i = refl
  array_of (null at) i = absurd cc
  array_of (truth at b) i = absurd cc
  array_of (number at d) i = absurd cc
  array_of (text at s) i = absurd cc
  array_of (object at ms close) i = absurd cc

  pub properties_too : (v w : Node) (qs : List JaniProperty) → bare_node v ≡ bare_node w → AreProperties rewards w qs → (ps : List Written) × AllZip IsSame qs ps × AreWritten v ps
  properties_too v w qs e i =
      let a = array_at v (bare_nodes (items_in w)) (e ∙ array_of w i.list) in
      let r = items_too (items_in v) (items_in w) qs a.1 i.items in
      (r.0, r.1, record { list = a.0; items = r.2 })
