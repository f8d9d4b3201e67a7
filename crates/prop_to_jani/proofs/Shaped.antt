-- The faults of the shape of the canonical value of properties: those of its names alone.
use Rattle.std.proofs.Common.{◌≡◌, ℕ, refl, sym, ap, subst, ◌∙◌, List, [], ◌∷◌, ◌++◌, map, flat_map, Option, Some, None, Bool, true, codes, is_some, if◌then◌else◌}
use Rattle.std.specs.List.{AllByRecursion as Each}
use Rattle.basics.specs.Each.{each_join, each_parts}
use Rattle.basics.specs.Options.{IfAny}
use Rattle.bridge_io.specs.declared.reason.Reason.{Reason}
use Rattle.bridge_io.specs.declared.reason.Reason.TheVariants.{LeftOut, WrongShape, PropertyLeftOut}
use Rattle.bridge_io.specs.declared.reason.Fault.{Fault}
use Rattle.op_trees.specs.Tree.{Truth, Number, Name as At, One, Two, Three, AllNames}
use Rattle.jani_table.specs.declared.operator.JaniOp.{JaniOp}
use Rattle.jani_table.specs.declared.operator.JaniOp.TheVariants as J
use Rattle.jani_table.specs.declared.table.Kind.{Kind}
use Rattle.jani_table.specs.declared.table.Kind.TheVariants as L
use Rattle.jani_table.specs.Node.{Node, text, Fields, nodes_of, fields_of}
use Rattle.jani_table.specs.Operators.{op_of, op_text}
use Rattle.jani_table.specs.Words.{name_fault, refused_of}
use Rattle.jani_table.specs.Faults.{fault_if, fault_unless, op_kind}
use Rattle.jani_tree.specs.Syntax.{Expression}
use Rattle.jani_tree.specs.Canonical.{HasOperands, word}
use Rattle.jani_tree.proofs.Again.{op_again, kind_one, kind_two, kind_three}
use Rattle.prop_grammar.specs.declared.syntax.Compare.TheVariants as C
use Rattle.prop_grammar.specs.Property.{Ask, greatest, least, bounded, greatest_reward, least_reward, Path, finally, globally, until, weak_until, finally_within, until_within}
use Rattle.prop_trees.specs.Trees.{Name, Role, JaniProperty, parts, ask_parts, path_parts}
use Rattle.prop_trees.specs.Names.{Meant, of_model, is_initial, is_deadlock, nothing, meant}
use Rattle.prop_trees.specs.Form.{AsksWell}
use Rattle.prop_trees.specs.JaniText.{key, object_at, op_word, name_node, expression_node, path_node, reward_node, structure_name, fun_of, filter_node, values_node, property_node, properties_node}
use Rattle.jani_props.specs.declared.words.OpWord.TheVariants.{Operator}
use Rattle.jani_props.specs.declared.table.PropForm.TheVariants as F
use Rattle.jani_props.specs.declared.table.PropKind.TheVariants as O
use Rattle.jani_props.specs.declared.shape.Reading.TheVariants.{As}
use Rattle.jani_props.specs.Words.{prop_op_of, op_word_of, fun_of as fun_by, property_left_out}
use Rattle.jani_props.specs.Shape.{reading, by_reading, is_fitting, row_faults, own_faults, faults, items_faults, members_faults}

-- ---- words of operators

operation_word : (o : JaniOp) → op_word_of (op_text o) ≡ Operator o
unfolding prop_op_of op_of
operation_word J.Add = refl
operation_word o = refl

abbrev members : List (Name × Node) → Fields
members ms = fields_of (map (λ m. (key m.0, m.1)) ms)

module _ (Such : Reason → Type 0) where
  -- each of the faults is of such a reason
  abbrev pub AreSuch : List Fault → Type 0
  AreSuch fs = Each (λ f. Such f.reason) fs

  -- so is that of a name, if it has one
  abbrev pub NameSuch : Name → Type 0
  NameSuch x = IfAny Such (name_fault x)

  abbrev pub MeantSuch : Meant → Type 0
  MeantSuch (of_model y) = NameSuch y
  MeantSuch is_initial = Unit {0}
  MeantSuch is_deadlock = Unit {0}
  MeantSuch nothing = ⊥

  -- and those of an expression's names
  abbrev pub ExpressionSuch : Expression → Type 0
  ExpressionSuch e = HasOperands e × AllNames (λ x. MeantSuch (meant x)) e

  if_such : (at : ℕ) (o : Option Reason) → IfAny Such o → AreSuch (fault_if at o)
  if_such at None h = tt
  if_such at (Some r) h = (h, tt)

  joined : (xss : List (List Fault)) → Each AreSuch xss → AreSuch (flat_map (λ xs. xs) xss)
  joined [] h = tt
  joined (xs ∷ xss) h = each_join (λ f. Such f.reason) xs (flat_map (λ xs. xs) xss) h.0 (joined xss h.1)

  -- an object without a fault of its own
  made : (xss : List (List Fault)) → Each AreSuch xss → AreSuch (flat_map (λ xs. xs) xss ++ [])
  made xss h = each_join (λ f. Such f.reason) (flat_map (λ xs. xs) xss) [] (joined xss h) tt

  module _ (given : List ℕ → Bool) where
    -- ---- expressions
    name_such : (at : ℕ) (x : Name) (m : Meant) → MeantSuch m → AreSuch (faults given F.Expression (name_node at x m))
    unfolding prop_op_of op_of row_faults
    name_such at x (of_model y) h = if_such at (name_fault y) h
    name_such at x is_initial h = tt
    name_such at x is_deadlock h = tt
    name_such at x nothing h = absurd h

    op_such : (o : JaniOp) → AreSuch (faults given F.Operator (word (op_text o)))
    op_such o =
        subst AreSuch
        (sym (ap (λ p. fault_if 0 (property_left_out (if is_some p then None else Some (if is_some (refused_of (op_text o)) then LeftOut else WrongShape)))) (op_again o))) tt

    operation_such : (at : ℕ) (o : JaniOp) (k : Kind) (rest : List (Name × Node)) → op_kind o ≡ k →
        AreSuch (members_faults given (O.Operation k) (members (op_word (op_text o) ∷ rest)) ++ own_faults given (O.Operation k) (members (op_word (op_text o) ∷ rest)) at 0) →
        AreSuch (faults given F.Expression (object_at at (op_word (op_text o) ∷ rest)))
    operation_such at o k rest e h =
        let ms = members (op_word (op_text o) ∷ rest) in
        let same : reading F.Expression (op_word_of (op_text o)) ≡ As (O.Operation k) = ap (reading F.Expression) (operation_word o) ∙ ap (λ k. As (O.Operation k)) e in
        subst (λ r. AreSuch (by_reading F.Expression r at (λ k. members_faults given k ms ++ own_faults given k ms at 0))) (sym same) h

    abbrev of_op : JaniOp → List Fault
    of_op o = faults given F.Operator (word (op_text o))

    abbrev of : Expression → List Fault
    of e = faults given F.Expression (expression_node e)

    expression_such : (e : Expression) → HasOperands e → AllNames (λ x. MeantSuch (meant x)) e → AreSuch (of e)
    unfolding row_faults
    expression_such (Truth at b) h n = tt
    expression_such (Number at d) h n = tt
    expression_such (At at x) h n = name_such at x (meant x) n
    expression_such (One at o a) h n =
        operation_such at o L.Unary ((codes "exp", expression_node a) ∷ []) (kind_one o h.0) (made (of_op o ∷ of a ∷ []) (op_such o, (expression_such a h.1 n, tt)))
    expression_such (Two at o a b) h n =
        operation_such at o L.Binary ((codes "left", expression_node a) ∷ (codes "right", expression_node b) ∷ []) (kind_two o h.0)
        (made (of_op o ∷ of a ∷ of b ∷ []) (op_such o, (expression_such a h.1 n.0, (expression_such b h.2 n.1, tt))))
    expression_such (Three at o a b c) h n =
        operation_such at o L.Choice ((codes "if", expression_node a) ∷ (codes "then", expression_node b) ∷ (codes "else", expression_node c) ∷ []) (kind_three o h.0)
        (made (of_op o ∷ of a ∷ of b ∷ of c ∷ []) (op_such o, (expression_such a h.1 n.0, (expression_such b h.2 n.1, (expression_such c h.3 n.2, tt)))))

    such : (e : Expression) → ExpressionSuch e → AreSuch (of e)
    such e h = expression_such e h.0 h.1

    -- ---- paths
    abbrev PartsSuch : List (Role × Expression) → Type 0
    PartsSuch xs = Each (λ x. ExpressionSuch x.1) xs

    abbrev of_bound : Expression → List Fault
    of_bound k = faults given F.Steps (object_at 0 ((codes "upper", expression_node k) ∷ []))

    bound_such : (k : Expression) → ExpressionSuch k → AreSuch (of_bound k)
    unfolding row_faults
    bound_such k h = made (of k ∷ []) (such k h, tt)

    path_such : (p : Path Expression) → PartsSuch (path_parts p) → AreSuch (faults given F.Path (path_node p))
    unfolding prop_op_of op_of row_faults
    path_such (finally e) h = made (of e ∷ []) (such e h.0, tt)
    path_such (globally e) h = made (of e ∷ []) (such e h.0, tt)
    path_such (until a b) h = made (of a ∷ of b ∷ []) (such a h.0, (such b h.1.0, tt))
    path_such (weak_until a b) h = made (of a ∷ of b ∷ []) (such a h.0, (such b h.1.0, tt))
    path_such (finally_within k e) h = made (of e ∷ of_bound k ∷ []) (such e h.1.0, (bound_such k h.0, tt))
    path_such (until_within k a b) h = made (of a ∷ of b ∷ of_bound k ∷ []) (such a h.1.0, (such b h.1.1.0, (bound_such k h.0, tt)))

    -- ---- queries
    abbrev of_probability : Name → Path Expression → List Fault
    of_probability op p =
        members_faults given O.Probability (members (op_word op ∷ (codes "exp", path_node p) ∷ [])) ++ own_faults given O.Probability (members (op_word op ∷ (codes "exp", path_node p) ∷ [])) 0 0

    probability_such : (op : Name) (p : Path Expression) → PartsSuch (path_parts p) → AreSuch (of_probability op p)
    unfolding row_faults
    probability_such op p h = made (faults given F.Path (path_node p) ∷ []) (path_such p h, tt)

    abbrev of_reward : Name → Name → Path Expression → List Fault
    of_reward op r p = faults given F.Values (reward_node op r p)

    greatest_such : (r : Name) (count : ℕ) (n : ℕ) (p : Path Expression) → AsksWell {E = Expression} count (greatest_reward n) p → NameSuch r → PartsSuch (path_parts p) → AreSuch (of_reward (codes "Emax") r p)
    unfolding prop_op_of op_of row_faults
    greatest_such r count n (finally e) w s h = made (fault_if 0 (name_fault r) ∷ of e ∷ []) (if_such 0 (name_fault r) s, (such e h.0, tt))
    greatest_such r count n (globally e) w s h = absurd w.1
    greatest_such r count n (until a b) w s h = absurd w.1
    greatest_such r count n (weak_until a b) w s h = absurd w.1
    greatest_such r count n (finally_within k e) w s h = absurd w.1
    greatest_such r count n (until_within k a b) w s h = absurd w.1

    least_such : (r : Name) (count : ℕ) (n : ℕ) (p : Path Expression) → AsksWell {E = Expression} count (least_reward n) p → NameSuch r → PartsSuch (path_parts p) → AreSuch (of_reward (codes "Emin") r p)
    unfolding prop_op_of op_of row_faults
    least_such r count n (finally e) w s h = made (fault_if 0 (name_fault r) ∷ of e ∷ []) (if_such 0 (name_fault r) s, (such e h.0, tt))
    least_such r count n (globally e) w s h = absurd w.1
    least_such r count n (until a b) w s h = absurd w.1
    least_such r count n (weak_until a b) w s h = absurd w.1
    least_such r count n (finally_within k e) w s h = absurd w.1
    least_such r count n (until_within k a b) w s h = absurd w.1

    -- the name of the structure that is asked of
    abbrev pub AskSuch : List Name → Ask Expression ℕ → Type 0
    AskSuch rewards (greatest_reward r) = NameSuch (structure_name rewards r)
    AskSuch rewards (least_reward r) = NameSuch (structure_name rewards r)
    AskSuch rewards greatest = Unit {0}
    AskSuch rewards least = Unit {0}
    AskSuch rewards (bounded c e) = Unit {0}

    values_such : (rewards : List Name) (count : ℕ) (a : Ask Expression ℕ) (p : Path Expression) → AsksWell count a p → AskSuch rewards a → PartsSuch (ask_parts a) → PartsSuch (path_parts p) →
        AreSuch (faults given F.Values (values_node rewards a p))
    unfolding prop_op_of op_of row_faults
    values_such rewards count greatest p w s g h = probability_such (codes "Pmax") p h
    values_such rewards count least p w s g h = probability_such (codes "Pmin") p h
    values_such rewards count (bounded C.Less e) p w s g h = made (of_probability (codes "Pmax") p ∷ of e ∷ []) (probability_such (codes "Pmax") p h, (such e g.0, tt))
    values_such rewards count (bounded C.AtMost e) p w s g h = made (of_probability (codes "Pmax") p ∷ of e ∷ []) (probability_such (codes "Pmax") p h, (such e g.0, tt))
    values_such rewards count (bounded C.AtLeast e) p w s g h = made (of_probability (codes "Pmin") p ∷ of e ∷ []) (probability_such (codes "Pmin") p h, (such e g.0, tt))
    values_such rewards count (bounded C.Greater e) p w s g h = made (of_probability (codes "Pmin") p ∷ of e ∷ []) (probability_such (codes "Pmin") p h, (such e g.0, tt))
    values_such rewards count (greatest_reward r) p w s g h = greatest_such (structure_name rewards r) count r p w s h
    values_such rewards count (least_reward r) p w s g h = least_such (structure_name rewards r) count r p w s h

    -- ---- properties
    fits : (rewards : List Name) (a : Ask Expression ℕ) (p : Path Expression) → is_fitting (Some (text 0 (fun_of a))) (Some (values_node rewards a p)) ≡ true
    unfolding prop_op_of op_of fun_by
    fits rewards greatest p = refl
    fits rewards least p = refl
    fits rewards (bounded C.Less e) p = refl
    fits rewards (bounded C.AtMost e) p = refl
    fits rewards (bounded C.AtLeast e) p = refl
    fits rewards (bounded C.Greater e) p = refl
    fits rewards (greatest_reward r) p = refl
    fits rewards (least_reward r) p = refl

    filter_such : (fun : Name) (values : Node) → is_fitting (Some (text 0 fun)) (Some values) ≡ true → AreSuch (faults given F.Values values) → AreSuch (faults given F.Filter (filter_node fun values))
    unfolding prop_op_of op_of row_faults
    filter_such fun values e h =
        subst (λ b. AreSuch ((faults given F.Values values ++ []) ++ fault_unless b 0 PropertyLeftOut)) (sym e) (made (faults given F.Values values ∷ []) (h, tt))

    -- a property whose names are such
    pub record PropertySuch (rewards : List Name) (count : ℕ) (p : JaniProperty) : Type 0 where
      pub name : Name
      pub named : p.name ≡ Some name
      pub title : NameSuch name
      pub expressions : PartsSuch (parts p)
      pub asks : AsksWell count p.ask p.path
      pub structure : AskSuch rewards p.ask

    property_such : (rewards : List Name) (count : ℕ) (p : JaniProperty) → PropertySuch rewards count p → AreSuch (faults given F.Property (property_node rewards p))
    unfolding row_faults
    property_such rewards count p h =
        let r = each_parts (λ x. ExpressionSuch x.1) (ask_parts p.ask) (path_parts p.path) h.expressions in
        let filter = filter_node (fun_of p.ask) (values_node rewards p.ask p.path) in
        named p.name h.named (filter_such (fun_of p.ask) (values_node rewards p.ask p.path) (fits rewards p.ask p.path) (values_such rewards count p.ask p.path h.asks h.structure r.0 r.1))
      where
        named : (n : Option Name) → n ≡ Some h.name → AreSuch (faults given F.Filter (filter_node (fun_of p.ask) (values_node rewards p.ask p.path))) →
            let q : JaniProperty = record { name = n; ask = p.ask; path = p.path } in AreSuch (faults given F.Property (property_node rewards q))
        named None e k = absurd cc
        named (Some x) e k =
            let same : h.name ≡ x = cc in
            made (fault_if 0 (name_fault x) ∷ faults given F.Filter (filter_node (fun_of p.ask) (values_node rewards p.ask p.path)) ∷ [])
            (if_such 0 (name_fault x) (subst NameSuch same h.title), (k, tt))

    items_such : (rewards : List Name) (count : ℕ) (ps : List JaniProperty) → Each (PropertySuch rewards count) ps → AreSuch (items_faults given F.Property (nodes_of (map (property_node rewards) ps)))
    items_such rewards count [] h = tt
    items_such rewards count (p ∷ ps) h =
        each_join (λ f. Such f.reason) (faults given F.Property (property_node rewards p)) (items_faults given F.Property (nodes_of (map (property_node rewards) ps)))
        (property_such rewards count p h.0) (items_such rewards count ps h.1)

    pub properties_such : (rewards : List Name) (count : ℕ) (ps : List JaniProperty) → Each (PropertySuch rewards count) ps → AreSuch (faults given F.Properties (properties_node rewards ps))
    properties_such rewards count ps h = items_such rewards count ps h
