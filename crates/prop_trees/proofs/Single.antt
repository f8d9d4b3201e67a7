-- A value spells one list of properties at most.
use Rattle.std.proofs.Common.{◌≡◌, ◌<◌, ℕ, zero, suc, refl, sym, ap, ap₂, subst, ◌∙◌, arith, List, [], ◌∷◌, ◌++◌, Option, Some, None, Bool, true, false, length, get_or, codes}
use Rattle.std.specs.Prelude.{IsSomeAnd, if◌then◌else◌, nat_eq, bytes_eq, find}
use Rattle.std.specs.List.{AllByRecursion as Each, IsDistinct}
use Rattle.std.proofs.lemmas.Bool.Decides.{nat_tests}
use Rattle.basics.specs.Texts.{bytes_eq-true, bytes_eq-self}
use Rattle.frac_core.specs.declared.decimal.Decimal.{Decimal}
use Rattle.op_trees.specs.Tree.{Truth, Number, Name as At, One, Two, Three}
use Rattle.jani_table.specs.declared.operator.JaniOp.{JaniOp}
use Rattle.jani_table.specs.declared.operator.JaniOp.TheVariants as O
use Rattle.jani_table.specs.declared.table.Kind.{Kind}
use Rattle.jani_table.specs.declared.table.Kind.TheVariants as L
use Rattle.jani_table.specs.Node.{Node, null, truth, number, text, array, object, Nodes, no_nodes, more_nodes, at_of}
use Rattle.jani_table.specs.Operators.{op_text, op_of, ops}
use Rattle.jani_table.specs.Faults.{op_in, op_kind, items_in}
use Rattle.jani_tree.specs.Syntax.{Expression}
use Rattle.jani_tree.specs.Jani as jani
use Rattle.jani_tree.specs.Jani.{IsItems, IsOperation, IsText}
use Rattle.jani_tree.proofs.Again.{op_again}
use Rattle.jani_tree.proofs.Unique.{same_op as same_operation}
use Rattle.prop_grammar.specs.declared.syntax.Compare.{Compare}
use Rattle.prop_grammar.specs.declared.syntax.Compare.TheVariants as C
use Rattle.prop_grammar.specs.Property.{Ask, greatest, least, bounded, greatest_reward, least_reward, Path, finally, globally, until, weak_until, finally_within, until_within}
use Rattle.prop_trees.specs.Trees.{Name, JaniProperty}
use Rattle.prop_trees.specs.Names.{Meant, of_model, is_initial, is_deadlock, nothing, meant, built_in, initial_name, deadlock_name, IsMeant}
use Rattle.prop_trees.specs.JaniText.{compared_by, side_of, part, Is, HasOp, IsName, IsExpression, IsBound, IsPath, IsReached, IsProbability, IsReward, IsValues, IsTitle, IsProperty, AreProperties}

-- ---- parts of a value

pub both : {A : Type 0} (o : Option A) (P Q : A → Type 0) → IsSomeAnd o P → IsSomeAnd o Q → (w : A) × P w × Q w
both None P Q p q = absurd p
both (Some w) P Q p q = (w, p, q)

-- the relation gives one thing at most
abbrev pub Single : {V A : Type 0} → (V → A → Type 0) → Type 0
Single {V} {A} P = (v : V) (x y : A) → P v x → P v y → x ≡ y

single_some : {V A : Type 0} (P : V → A → Type 0) → Single P → Single (λ o x. IsSomeAnd o (λ w. P w x))
single_some P h o x y p q = let b = both o (λ w. P w x) (λ w. P w y) p q in h b.0 x y b.1 b.2

single_text : Single IsText
single_text (text at x) s t p q = sym p ∙ q
single_text (null at) s t p q = absurd p
single_text (truth at b) s t p q = absurd p
single_text (number at d) s t p q = absurd p
single_text (array at vs) s t p q = absurd p
single_text (object at ms close) s t p q = absurd p

-- texts that the test tells apart
apart : (s t : Name) → bytes_eq s t ≡ false → s ≡ t → ⊥
apart s t f e = let h : true ≡ false = sym (bytes_eq-self s) ∙ ap (bytes_eq s) e ∙ f in absurd cc

-- ---- what an expression's value begins with

data Head : Type 0 where
  truth_head : ℕ → Bool → Head
  number_head : ℕ → Decimal → Head
  text_head : ℕ → Name → Head
  op_head : ℕ → Option Name → Head
  no_head : Head

text_of : Option Node → Option Name
text_of (Some (text at s)) = Some s
text_of _ = None

head : Node → Head
head (truth at b) = truth_head at b
head (number at d) = number_head at d
head (text at s) = text_head at s
head (object at ms close) = op_head at (text_of (part (codes "op") (object at ms close)))
head _ = no_head

meant_head : ℕ → Meant → Head
meant_head at (of_model y) = text_head at y
meant_head at is_initial = op_head at (Some (codes "initial"))
meant_head at is_deadlock = op_head at (Some (codes "deadlock"))
meant_head at nothing = no_head

head_of : Expression → Head
head_of (Truth at b) = truth_head at b
head_of (Number at d) = number_head at d
head_of (At at x) = meant_head at (meant x)
head_of (One at o a) = op_head at (Some (op_text o))
head_of (Two at o a b) = op_head at (Some (op_text o))
head_of (Three at o a b c) = op_head at (Some (op_text o))

op_is : (s : Name) (os : List JaniOp) (o : JaniOp) → find (λ p. bytes_eq (op_text p) s) os ≡ Some o → s ≡ op_text o
op_is s [] o e = absurd cc
op_is s (p ∷ os) o e = by_test (bytes_eq (op_text p) s) refl (op_is s os o) e
  where
    by_test : (b : Bool) → bytes_eq (op_text p) s ≡ b → (find (λ q. bytes_eq (op_text q) s) os ≡ Some o → s ≡ op_text o) → (if b then Some p else find (λ q. bytes_eq (op_text q) s) os) ≡ Some o → s ≡ op_text o
    by_test true h r k = let same : p ≡ o = cc in sym (bytes_eq-true (op_text p) s h) ∙ ap op_text same
    by_test false h r k = r k

op_written : (v : Option Node) (o : JaniOp) → op_in v ≡ Some o → text_of v ≡ Some (op_text o)
unfolding op_of text_of
op_written (Some (text at s)) o e = ap (λ (u : Name). Some u) (op_is s ops o e)
op_written None o e = absurd cc
op_written (Some (null at)) o e = absurd cc
op_written (Some (truth at b)) o e = absurd cc
op_written (Some (number at d)) o e = absurd cc
op_written (Some (array at vs)) o e = absurd cc
op_written (Some (object at ms close)) o e = absurd cc

-- a value with an operator is an object
with_op : (v : Node) (at : ℕ) (s : Name) → text_of (part (codes "op") v) ≡ Some s → at_of v ≡ at → head v ≡ op_head at (Some s)
unfolding head text_of
with_op (object at ms close) _ s e h = ap₂ op_head h e
with_op (null at) _ s e h = absurd cc
with_op (truth at b) _ s e h = absurd cc
with_op (number at d) _ s e h = absurd cc
with_op (text at t) _ s e h = absurd cc
with_op (array at vs) _ s e h = absurd cc

word_text : (o : Option Node) (s : Name) → IsSomeAnd o (λ w. IsText w s) → text_of o ≡ Some s
unfolding text_of
word_text (Some (text at t)) s h = ap (λ (u : Name). Some u) h
word_text None s h = absurd h
word_text (Some (null at)) s h = absurd h
word_text (Some (truth at b)) s h = absurd h
word_text (Some (number at d)) s h = absurd h
word_text (Some (array at vs)) s h = absurd h
word_text (Some (object at ms close)) s h = absurd h

head_name : (v : Node) (at : ℕ) (x : Name) (m : Meant) → IsName v at x m → head v ≡ meant_head at m
unfolding head meant_head
head_name v at x (of_model y) h = ap head h
head_name v at x is_initial h = with_op v at _ (word_text _ _ h.0) h.1
head_name v at x is_deadlock h = with_op v at _ (word_text _ _ h.0) h.1
head_name v at x nothing h = absurd h

head_operation : (v : Node) (at : ℕ) (o : JaniOp) (k : Kind) → IsOperation v at o k → head v ≡ op_head at (Some (op_text o))
head_operation v at o k h = with_op v at (op_text o) (op_written _ o h.op) h.offset

head_is : (v : Node) (e : Expression) → IsExpression v e → head v ≡ head_of e
unfolding head head_of
head_is v (Truth at b) h = ap head h
head_is v (Number at d) h = ap head h
head_is v (At at x) h = head_name v at x (meant x) h
head_is v (One at o a) h = head_operation v at o _ h.0
head_is v (Two at o a b) h = head_operation v at o _ h.0
head_is v (Three at o a b c) h = head_operation v at o _ h.0

-- ---- expressions

heads : (v : Node) (e f : Expression) → IsExpression v e → IsExpression v f → head_of e ≡ head_of f
heads v e f p q = sym (head_is v e p) ∙ head_is v f q

-- labels that every model has are no operators
name_not_op : (at at2 : ℕ) (m : Meant) (o : JaniOp) → meant_head at m ≡ op_head at2 (Some (op_text o)) → ⊥
unfolding meant_head op_of
name_not_op at at2 (of_model y) o h = absurd cc
name_not_op at at2 is_initial o h = let e : codes "initial" ≡ op_text o = cc in let n : Some o ≡ None = sym (op_again o) ∙ ap op_of (sym e) in absurd cc
name_not_op at at2 is_deadlock o h = let e : codes "deadlock" ≡ op_text o = cc in let n : Some o ≡ None = sym (op_again o) ∙ ap op_of (sym e) in absurd cc
name_not_op at at2 nothing o h = absurd cc

name_not_truth : (at at2 : ℕ) (m : Meant) (b : Bool) → meant_head at m ≡ truth_head at2 b → ⊥
unfolding meant_head
name_not_truth at at2 (of_model y) b h = absurd cc
name_not_truth at at2 is_initial b h = absurd cc
name_not_truth at at2 is_deadlock b h = absurd cc
name_not_truth at at2 nothing b h = absurd cc

name_not_number : (at at2 : ℕ) (m : Meant) (d : Decimal) → meant_head at m ≡ number_head at2 d → ⊥
unfolding meant_head
name_not_number at at2 (of_model y) d h = absurd cc
name_not_number at at2 is_initial d h = absurd cc
name_not_number at at2 is_deadlock d h = absurd cc
name_not_number at at2 nothing d h = absurd cc

-- what a name is meant as tells the name
name_of : Meant → Name
name_of (of_model y) = 46 ∷ y
name_of is_initial = initial_name
name_of is_deadlock = deadlock_name
name_of nothing = []

built_name : (x : Name) (m : Meant) → built_in x ≡ m → IsMeant m → x ≡ name_of m
unfolding name_of
built_name x m h k = by_test (bytes_eq x initial_name) (bytes_eq x deadlock_name) refl refl h
  where
    by_test : (b c : Bool) → bytes_eq x initial_name ≡ b → bytes_eq x deadlock_name ≡ c → (if b then is_initial else if c then is_deadlock else nothing) ≡ m → x ≡ name_of m
    by_test true c e f i = bytes_eq-true x initial_name e ∙ ap name_of i
    by_test false true e f i = bytes_eq-true x deadlock_name f ∙ ap name_of i
    by_test false false e f i = absurd (subst IsMeant (sym i) k)

meant_name : (x : Name) (m : Meant) → meant x ≡ m → IsMeant m → x ≡ name_of m
unfolding name_of
meant_name [] m h k = absurd (subst IsMeant (sym h) k)
meant_name (b ∷ x) m h k = by_test (nat_eq b 46) refl h
  where
    by_test : (t : Bool) → nat_eq b 46 ≡ t → (if t then of_model x else built_in (b ∷ x)) ≡ m → (b ∷ x) ≡ name_of m
    by_test true e i = let s : b ≡ 46 = grind (arith, nat_tests, e) in ap (λ n. n ∷ x) s ∙ ap name_of i
    by_test false e i = built_name (b ∷ x) m i k

spelled_meant : (v : Node) (at : ℕ) (x : Name) (m : Meant) → IsName v at x m → IsMeant m
spelled_meant v at x (of_model y) h = tt
spelled_meant v at x is_initial h = tt
spelled_meant v at x is_deadlock h = tt
spelled_meant v at x nothing h = absurd h

same_meant : (at at2 : ℕ) (m n : Meant) → IsMeant m → IsMeant n → meant_head at m ≡ meant_head at2 n → (at ≡ at2) × (m ≡ n)
unfolding meant_head
same_meant at at2 (of_model y) (of_model z) k l h = (cc, cc)
same_meant at at2 (of_model y) is_initial k l h = absurd cc
same_meant at at2 (of_model y) is_deadlock k l h = absurd cc
same_meant at at2 is_initial (of_model z) k l h = absurd cc
same_meant at at2 is_initial is_initial k l h = (cc, refl)
same_meant at at2 is_initial is_deadlock k l h = absurd cc
same_meant at at2 is_deadlock (of_model z) k l h = absurd cc
same_meant at at2 is_deadlock is_initial k l h = absurd cc
same_meant at at2 is_deadlock is_deadlock k l h = (cc, refl)
same_meant at at2 nothing n k l h = absurd k
same_meant at at2 (of_model y) nothing k l h = absurd l
same_meant at at2 is_initial nothing k l h = absurd l
same_meant at at2 is_deadlock nothing k l h = absurd l

single_name : (v : Node) (at at2 : ℕ) (x y : Name) (m n : Meant) → meant x ≡ m → meant y ≡ n → IsName v at x m → IsName v at2 y n → ◌≡◌ {A = Expression} (At at x) (At at2 y)
single_name v at at2 x y m n f g p q =
    let k = spelled_meant v at x m p in
    let l = spelled_meant v at2 y n q in
    let s = same_meant at at2 m n k l (sym (head_name v at x m p) ∙ head_name v at2 y n q) in
    let names : x ≡ y = meant_name x m f k ∙ ap name_of s.1 ∙ sym (meant_name y n g l) in
    cc (s.0, names)

pub single_expression : Single IsExpression
unfolding head_of
single_expression v (Truth at b) (Truth at2 c) e f = cc
single_expression v (Truth at b) (Number at2 c) e f = cc
single_expression v (Truth at b) (At at2 y) e f = absurd (name_not_truth at2 at (meant y) b (sym (heads v (Truth at b) (At at2 y) e f)))
single_expression v (Truth at b) (One at2 p b1) e f = cc (heads v (Truth at b) (One at2 p b1) e f)
single_expression v (Truth at b) (Two at2 p b1 b2) e f = cc (heads v (Truth at b) (Two at2 p b1 b2) e f)
single_expression v (Truth at b) (Three at2 p b1 b2 b3) e f = cc (heads v (Truth at b) (Three at2 p b1 b2 b3) e f)
single_expression v (Number at d) (Truth at2 c) e f = cc
single_expression v (Number at d) (Number at2 c) e f = cc
single_expression v (Number at d) (At at2 y) e f = absurd (name_not_number at2 at (meant y) d (sym (heads v (Number at d) (At at2 y) e f)))
single_expression v (Number at d) (One at2 p b1) e f = cc (heads v (Number at d) (One at2 p b1) e f)
single_expression v (Number at d) (Two at2 p b1 b2) e f = cc (heads v (Number at d) (Two at2 p b1 b2) e f)
single_expression v (Number at d) (Three at2 p b1 b2 b3) e f = cc (heads v (Number at d) (Three at2 p b1 b2 b3) e f)
single_expression v (At at x) (Truth at2 c) e f = absurd (name_not_truth at at2 (meant x) c (heads v (At at x) (Truth at2 c) e f))
single_expression v (At at x) (Number at2 c) e f = absurd (name_not_number at at2 (meant x) c (heads v (At at x) (Number at2 c) e f))
single_expression v (At at x) (At at2 y) e f = single_name v at at2 x y (meant x) (meant y) refl refl e f
single_expression v (At at x) (One at2 p b1) e f = absurd (name_not_op at at2 (meant x) p (heads v (At at x) (One at2 p b1) e f))
single_expression v (At at x) (Two at2 p b1 b2) e f = absurd (name_not_op at at2 (meant x) p (heads v (At at x) (Two at2 p b1 b2) e f))
single_expression v (At at x) (Three at2 p b1 b2 b3) e f = absurd (name_not_op at at2 (meant x) p (heads v (At at x) (Three at2 p b1 b2 b3) e f))
single_expression v (One at o a1) (Truth at2 c) e f = cc (heads v (One at o a1) (Truth at2 c) e f)
single_expression v (One at o a1) (Number at2 c) e f = cc (heads v (One at o a1) (Number at2 c) e f)
single_expression v (One at o a1) (At at2 y) e f = absurd (name_not_op at2 at (meant y) o (sym (heads v (One at o a1) (At at2 y) e f)))
single_expression v (One at o a1) (One at2 p b1) e f =
    let h = same_operation v at at2 o p _ _ e.0 f.0 in
    let w1 = both (part (codes "exp") v) (λ w. IsExpression w a1) (λ w. IsExpression w b1) e.1 f.1 in
    let i1 : a1 ≡ b1 = single_expression w1.0 a1 b1 w1.1 w1.2 in
    cc (h.0, h.1, i1)
single_expression v (One at o a1) (Two at2 p b1 b2) e f = absurd (cc ((same_operation v at at2 o p _ _ e.0 f.0).2))
single_expression v (One at o a1) (Three at2 p b1 b2 b3) e f = absurd (cc ((same_operation v at at2 o p _ _ e.0 f.0).2))
single_expression v (Two at o a1 a2) (Truth at2 c) e f = cc (heads v (Two at o a1 a2) (Truth at2 c) e f)
single_expression v (Two at o a1 a2) (Number at2 c) e f = cc (heads v (Two at o a1 a2) (Number at2 c) e f)
single_expression v (Two at o a1 a2) (At at2 y) e f = absurd (name_not_op at2 at (meant y) o (sym (heads v (Two at o a1 a2) (At at2 y) e f)))
single_expression v (Two at o a1 a2) (One at2 p b1) e f = absurd (cc ((same_operation v at at2 o p _ _ e.0 f.0).2))
single_expression v (Two at o a1 a2) (Two at2 p b1 b2) e f =
    let h = same_operation v at at2 o p _ _ e.0 f.0 in
    let w1 = both (part (codes "left") v) (λ w. IsExpression w a1) (λ w. IsExpression w b1) e.1 f.1 in
    let i1 : a1 ≡ b1 = single_expression w1.0 a1 b1 w1.1 w1.2 in
    let w2 = both (part (codes "right") v) (λ w. IsExpression w a2) (λ w. IsExpression w b2) e.2 f.2 in
    let i2 : a2 ≡ b2 = single_expression w2.0 a2 b2 w2.1 w2.2 in
    cc (h.0, h.1, i1, i2)
single_expression v (Two at o a1 a2) (Three at2 p b1 b2 b3) e f = absurd (cc ((same_operation v at at2 o p _ _ e.0 f.0).2))
single_expression v (Three at o a1 a2 a3) (Truth at2 c) e f = cc (heads v (Three at o a1 a2 a3) (Truth at2 c) e f)
single_expression v (Three at o a1 a2 a3) (Number at2 c) e f = cc (heads v (Three at o a1 a2 a3) (Number at2 c) e f)
single_expression v (Three at o a1 a2 a3) (At at2 y) e f = absurd (name_not_op at2 at (meant y) o (sym (heads v (Three at o a1 a2 a3) (At at2 y) e f)))
single_expression v (Three at o a1 a2 a3) (One at2 p b1) e f = absurd (cc ((same_operation v at at2 o p _ _ e.0 f.0).2))
single_expression v (Three at o a1 a2 a3) (Two at2 p b1 b2) e f = absurd (cc ((same_operation v at at2 o p _ _ e.0 f.0).2))
single_expression v (Three at o a1 a2 a3) (Three at2 p b1 b2 b3) e f =
    let h = same_operation v at at2 o p _ _ e.0 f.0 in
    let w1 = both (part (codes "if") v) (λ w. IsExpression w a1) (λ w. IsExpression w b1) e.1 f.1 in
    let i1 : a1 ≡ b1 = single_expression w1.0 a1 b1 w1.1 w1.2 in
    let w2 = both (part (codes "then") v) (λ w. IsExpression w a2) (λ w. IsExpression w b2) e.2 f.2 in
    let i2 : a2 ≡ b2 = single_expression w2.0 a2 b2 w2.1 w2.2 in
    let w3 = both (part (codes "else") v) (λ w. IsExpression w a3) (λ w. IsExpression w b3) e.3 f.3 in
    let i3 : a3 ≡ b3 = single_expression w3.0 a3 b3 w3.1 w3.2 in
    cc (h.0, h.1, i1, i2, i3)

-- ---- paths

-- the operators that a value has are one
same_op : (v : Node) (s t : Name) → HasOp s v → HasOp t v → s ≡ t
same_op v s t p q = single_some IsText single_text (part (codes "op") v) s t p q

same_part : (k : Name) (v : Node) (e f : Expression) → Is k v (λ w. IsExpression w e) → Is k v (λ w. IsExpression w f) → e ≡ f
same_part k v e f p q = single_some IsExpression single_expression (part k v) e f p q

same_bound : (v : Node) (k l : Expression) → IsBound v (Some k) → IsBound v (Some l) → k ≡ l
same_bound v k l p q = single_some (λ w e. Is (codes "upper") w (λ u. IsExpression u e)) (λ w. same_part (codes "upper") w) (part (codes "step-bounds") v) k l p q

unbounded : (v : Node) (k : Expression) → IsBound v None → IsBound v (Some k) → ⊥
unbounded v k n q = let F : Option Node → Type 0 = λ o. IsSomeAnd o (λ w. Is (codes "upper") w (λ u. IsExpression u k)) in subst F n q

pub single_path : Single IsPath
single_path v (finally a1) (finally a2) p q =
    let a_same : a1 ≡ a2 = same_part (codes "exp") v a1 a2 p.1 q.1 in
    cc a_same
single_path v (finally a1) (globally a2) p q = absurd (apart (codes "F") (codes "G") refl (same_op v (codes "F") (codes "G") p.0 q.0))
single_path v (finally a1) (until a2 b2) p q = absurd (apart (codes "F") (codes "U") refl (same_op v (codes "F") (codes "U") p.0 q.0))
single_path v (finally a1) (weak_until a2 b2) p q = absurd (apart (codes "F") (codes "W") refl (same_op v (codes "F") (codes "W") p.0 q.0))
single_path v (finally a1) (finally_within k2 a2) p q = absurd (unbounded v k2 p.2 q.2)
single_path v (finally a1) (until_within k2 a2 b2) p q = absurd (apart (codes "F") (codes "U") refl (same_op v (codes "F") (codes "U") p.0 q.0))
single_path v (globally a1) (finally a2) p q = absurd (apart (codes "G") (codes "F") refl (same_op v (codes "G") (codes "F") p.0 q.0))
single_path v (globally a1) (globally a2) p q =
    let a_same : a1 ≡ a2 = same_part (codes "exp") v a1 a2 p.1 q.1 in
    cc a_same
single_path v (globally a1) (until a2 b2) p q = absurd (apart (codes "G") (codes "U") refl (same_op v (codes "G") (codes "U") p.0 q.0))
single_path v (globally a1) (weak_until a2 b2) p q = absurd (apart (codes "G") (codes "W") refl (same_op v (codes "G") (codes "W") p.0 q.0))
single_path v (globally a1) (finally_within k2 a2) p q = absurd (apart (codes "G") (codes "F") refl (same_op v (codes "G") (codes "F") p.0 q.0))
single_path v (globally a1) (until_within k2 a2 b2) p q = absurd (apart (codes "G") (codes "U") refl (same_op v (codes "G") (codes "U") p.0 q.0))
single_path v (until a1 b1) (finally a2) p q = absurd (apart (codes "U") (codes "F") refl (same_op v (codes "U") (codes "F") p.0 q.0))
single_path v (until a1 b1) (globally a2) p q = absurd (apart (codes "U") (codes "G") refl (same_op v (codes "U") (codes "G") p.0 q.0))
single_path v (until a1 b1) (until a2 b2) p q =
    let a_same : a1 ≡ a2 = same_part (codes "left") v a1 a2 p.1 q.1 in
    let b_same : b1 ≡ b2 = same_part (codes "right") v b1 b2 p.2 q.2 in
    cc (a_same, b_same)
single_path v (until a1 b1) (weak_until a2 b2) p q = absurd (apart (codes "U") (codes "W") refl (same_op v (codes "U") (codes "W") p.0 q.0))
single_path v (until a1 b1) (finally_within k2 a2) p q = absurd (apart (codes "U") (codes "F") refl (same_op v (codes "U") (codes "F") p.0 q.0))
single_path v (until a1 b1) (until_within k2 a2 b2) p q = absurd (unbounded v k2 p.3 q.3)
single_path v (weak_until a1 b1) (finally a2) p q = absurd (apart (codes "W") (codes "F") refl (same_op v (codes "W") (codes "F") p.0 q.0))
single_path v (weak_until a1 b1) (globally a2) p q = absurd (apart (codes "W") (codes "G") refl (same_op v (codes "W") (codes "G") p.0 q.0))
single_path v (weak_until a1 b1) (until a2 b2) p q = absurd (apart (codes "W") (codes "U") refl (same_op v (codes "W") (codes "U") p.0 q.0))
single_path v (weak_until a1 b1) (weak_until a2 b2) p q =
    let a_same : a1 ≡ a2 = same_part (codes "left") v a1 a2 p.1 q.1 in
    let b_same : b1 ≡ b2 = same_part (codes "right") v b1 b2 p.2 q.2 in
    cc (a_same, b_same)
single_path v (weak_until a1 b1) (finally_within k2 a2) p q = absurd (apart (codes "W") (codes "F") refl (same_op v (codes "W") (codes "F") p.0 q.0))
single_path v (weak_until a1 b1) (until_within k2 a2 b2) p q = absurd (apart (codes "W") (codes "U") refl (same_op v (codes "W") (codes "U") p.0 q.0))
single_path v (finally_within k1 a1) (finally a2) p q = absurd (unbounded v k1 q.2 p.2)
single_path v (finally_within k1 a1) (globally a2) p q = absurd (apart (codes "F") (codes "G") refl (same_op v (codes "F") (codes "G") p.0 q.0))
single_path v (finally_within k1 a1) (until a2 b2) p q = absurd (apart (codes "F") (codes "U") refl (same_op v (codes "F") (codes "U") p.0 q.0))
single_path v (finally_within k1 a1) (weak_until a2 b2) p q = absurd (apart (codes "F") (codes "W") refl (same_op v (codes "F") (codes "W") p.0 q.0))
single_path v (finally_within k1 a1) (finally_within k2 a2) p q =
    let a_same : a1 ≡ a2 = same_part (codes "exp") v a1 a2 p.1 q.1 in
    let k_same : k1 ≡ k2 = same_bound v k1 k2 p.2 q.2 in
    cc (a_same, k_same)
single_path v (finally_within k1 a1) (until_within k2 a2 b2) p q = absurd (apart (codes "F") (codes "U") refl (same_op v (codes "F") (codes "U") p.0 q.0))
single_path v (until_within k1 a1 b1) (finally a2) p q = absurd (apart (codes "U") (codes "F") refl (same_op v (codes "U") (codes "F") p.0 q.0))
single_path v (until_within k1 a1 b1) (globally a2) p q = absurd (apart (codes "U") (codes "G") refl (same_op v (codes "U") (codes "G") p.0 q.0))
single_path v (until_within k1 a1 b1) (until a2 b2) p q = absurd (unbounded v k1 q.3 p.3)
single_path v (until_within k1 a1 b1) (weak_until a2 b2) p q = absurd (apart (codes "U") (codes "W") refl (same_op v (codes "U") (codes "W") p.0 q.0))
single_path v (until_within k1 a1 b1) (finally_within k2 a2) p q = absurd (apart (codes "U") (codes "F") refl (same_op v (codes "U") (codes "F") p.0 q.0))
single_path v (until_within k1 a1 b1) (until_within k2 a2 b2) p q =
    let a_same : a1 ≡ a2 = same_part (codes "left") v a1 a2 p.1 q.1 in
    let b_same : b1 ≡ b2 = same_part (codes "right") v b1 b2 p.2 q.2 in
    let k_same : k1 ≡ k2 = same_bound v k1 k2 p.3 q.3 in
    cc (a_same, b_same, k_same)

-- ---- queries

-- the names of reward structures differ, and none is empty
pub record AreApart (rewards : List Name) : Type 0 where
  pub distinct : IsDistinct bytes_eq rewards
  pub some : Each (λ x. x ≡ [] → ⊥) rewards

not_first : (x : Name) (xs : List Name) (r : ℕ) → Each (λ y. bytes_eq x y ≡ false) xs → (x ≡ [] → ⊥) → x ≡ get_or xs r [] → ⊥
not_first x [] r d n e = n e
not_first x (y ∷ xs) zero d n e = let h : true ≡ false = sym (ap (λ z. bytes_eq x z) (sym e) ∙ bytes_eq-self x) ∙ d.0 in cc
not_first x (y ∷ xs) (suc r) d n e = not_first x xs r d.1 n e

same_number : (xs : List Name) (r s : ℕ) → IsDistinct bytes_eq xs → Each (λ x. x ≡ [] → ⊥) xs → r < length xs → get_or xs r [] ≡ get_or xs s [] → r ≡ s
unfolding IsDistinct
same_number [] r s d n l e = absurd (omega (arith, l))
same_number (x ∷ xs) zero zero d n l e = refl
same_number (x ∷ xs) zero (suc s) d n l e = absurd (not_first x xs s d.0 n.0 e)
same_number (x ∷ xs) (suc r) zero d n l e = absurd (not_first x xs r d.0 n.0 (sym e))
same_number (x ∷ xs) (suc r) (suc s) d n l e = ap suc (same_number xs r s d.1 n.1 (omega (arith, l)) e)

same_probability : (v : Node) (s t : Name) (p q : Path Expression) → IsProbability s v p → IsProbability t v q → (s ≡ t) × (p ≡ q)
same_probability v s t p q h k = (same_op v s t h.0 k.0, single_some IsPath single_path (part (codes "exp") v) p q h.1 k.1)

single_reached : Single IsReached
single_reached v (finally e) (finally f) p q = ap finally (single_expression v e f p q)
single_reached v (finally e) (globally a2) p q = absurd q
single_reached v (finally e) (until a2 b2) p q = absurd q
single_reached v (finally e) (weak_until a2 b2) p q = absurd q
single_reached v (finally e) (finally_within k2 a2) p q = absurd q
single_reached v (finally e) (until_within k2 a2 b2) p q = absurd q
single_reached v (globally a1) y p q = absurd p
single_reached v (until a1 b1) y p q = absurd p
single_reached v (weak_until a1 b1) y p q = absurd p
single_reached v (finally_within k1 a1) y p q = absurd p
single_reached v (until_within k1 a1 b1) y p q = absurd p

same_bounds : (c d : Compare) → op_text (compared_by c) ≡ op_text (compared_by d) → c ≡ d
same_bounds C.Less C.Less h = refl
same_bounds C.AtMost C.AtMost h = refl
same_bounds C.AtLeast C.AtLeast h = refl
same_bounds C.Greater C.Greater h = refl
same_bounds C.Less C.AtMost h = absurd (apart _ _ refl h)
same_bounds C.Less C.AtLeast h = absurd (apart _ _ refl h)
same_bounds C.Less C.Greater h = absurd (apart _ _ refl h)
same_bounds C.AtMost C.Less h = absurd (apart _ _ refl h)
same_bounds C.AtMost C.AtLeast h = absurd (apart _ _ refl h)
same_bounds C.AtMost C.Greater h = absurd (apart _ _ refl h)
same_bounds C.AtLeast C.Less h = absurd (apart _ _ refl h)
same_bounds C.AtLeast C.AtMost h = absurd (apart _ _ refl h)
same_bounds C.AtLeast C.Greater h = absurd (apart _ _ refl h)
same_bounds C.Greater C.Less h = absurd (apart _ _ refl h)
same_bounds C.Greater C.AtMost h = absurd (apart _ _ refl h)
same_bounds C.Greater C.AtLeast h = absurd (apart _ _ refl h)

-- the operator of a comparison is none of the words of the other queries
no_word : (c : Compare) → Each (λ t. bytes_eq (op_text (compared_by c)) t ≡ false) (codes "Pmax" ∷ codes "Pmin" ∷ codes "Emax" ∷ codes "Emin" ∷ [])
no_word C.Less = (refl, (refl, (refl, (refl, tt))))
no_word C.AtMost = (refl, (refl, (refl, (refl, tt))))
no_word C.AtLeast = (refl, (refl, (refl, (refl, tt))))
no_word C.Greater = (refl, (refl, (refl, (refl, tt))))

-- the number of a structure that is asked of is that of one
abbrev pub HasStructure : List Name → Ask Expression ℕ → Type 0
HasStructure rewards (greatest_reward r) = r < length rewards
HasStructure rewards (least_reward r) = r < length rewards
HasStructure rewards greatest = Unit {0}
HasStructure rewards least = Unit {0}
HasStructure rewards (bounded c e) = Unit {0}

module _ (rewards : List Name) (differ : AreApart rewards) where
  same_reward : (v : Node) (s t : Name) (r u : ℕ) (p q : Path Expression) → r < length rewards → IsReward rewards s v r p → IsReward rewards t v u q → (r ≡ u) × (p ≡ q)
  same_reward v s t r u p q l h k = (
    same_number rewards r u differ.distinct differ.some l (single_some IsText single_text (part (codes "exp") v) _ _ h.1 k.1),
    single_some IsReached single_reached (part (codes "reach") v) p q h.2 k.2,
  )

  same_values : (v : Node) (a b : Ask Expression ℕ) (p q : Path Expression) → HasStructure rewards a → IsValues rewards v a p → IsValues rewards v b q → (a ≡ b) × (p ≡ q)
  same_values v greatest greatest p q l h k = (refl, (same_probability v _ _ p q h k).1)
  same_values v greatest least p q l h k = absurd (apart (codes "Pmax") (codes "Pmin") refl (same_op v (codes "Pmax") (codes "Pmin") h.0 k.0))
  same_values v greatest (bounded c2 e2) p q l h k = absurd (apart _ (codes "Pmax") ((no_word c2).0) (same_op v _ (codes "Pmax") k.0 h.0))
  same_values v greatest (greatest_reward r2) p q l h k = absurd (apart (codes "Pmax") (codes "Emax") refl (same_op v (codes "Pmax") (codes "Emax") h.0 k.0))
  same_values v greatest (least_reward r2) p q l h k = absurd (apart (codes "Pmax") (codes "Emin") refl (same_op v (codes "Pmax") (codes "Emin") h.0 k.0))
  same_values v least greatest p q l h k = absurd (apart (codes "Pmin") (codes "Pmax") refl (same_op v (codes "Pmin") (codes "Pmax") h.0 k.0))
  same_values v least least p q l h k = (refl, (same_probability v _ _ p q h k).1)
  same_values v least (bounded c2 e2) p q l h k = absurd (apart _ (codes "Pmin") ((no_word c2).1.0) (same_op v _ (codes "Pmin") k.0 h.0))
  same_values v least (greatest_reward r2) p q l h k = absurd (apart (codes "Pmin") (codes "Emax") refl (same_op v (codes "Pmin") (codes "Emax") h.0 k.0))
  same_values v least (least_reward r2) p q l h k = absurd (apart (codes "Pmin") (codes "Emin") refl (same_op v (codes "Pmin") (codes "Emin") h.0 k.0))
  same_values v (bounded c1 e1) greatest p q l h k = absurd (apart _ (codes "Pmax") ((no_word c1).0) (same_op v _ (codes "Pmax") h.0 k.0))
  same_values v (bounded c1 e1) least p q l h k = absurd (apart _ (codes "Pmin") ((no_word c1).1.0) (same_op v _ (codes "Pmin") h.0 k.0))
  same_values v (bounded c1 e1) (bounded c2 e2) p q l h k =
      let w = both (part (codes "left") v) (λ u. IsProbability (side_of c1) u p) (λ u. IsProbability (side_of c2) u q) h.1 k.1 in
      (ap₂ bounded (same_bounds c1 c2 (same_op v _ _ h.0 k.0)) (same_part (codes "right") v e1 e2 h.2 k.2), (same_probability w.0 _ _ p q w.1 w.2).1)
  same_values v (bounded c1 e1) (greatest_reward r2) p q l h k = absurd (apart _ (codes "Emax") ((no_word c1).1.1.0) (same_op v _ (codes "Emax") h.0 k.0))
  same_values v (bounded c1 e1) (least_reward r2) p q l h k = absurd (apart _ (codes "Emin") ((no_word c1).1.1.1.0) (same_op v _ (codes "Emin") h.0 k.0))
  same_values v (greatest_reward r1) greatest p q l h k = absurd (apart (codes "Emax") (codes "Pmax") refl (same_op v (codes "Emax") (codes "Pmax") h.0 k.0))
  same_values v (greatest_reward r1) least p q l h k = absurd (apart (codes "Emax") (codes "Pmin") refl (same_op v (codes "Emax") (codes "Pmin") h.0 k.0))
  same_values v (greatest_reward r1) (bounded c2 e2) p q l h k = absurd (apart _ (codes "Emax") ((no_word c2).1.1.0) (same_op v _ (codes "Emax") k.0 h.0))
  same_values v (greatest_reward r1) (greatest_reward r2) p q l h k = let s = same_reward v _ _ r1 r2 p q l h k in (ap greatest_reward s.0, s.1)
  same_values v (greatest_reward r1) (least_reward r2) p q l h k = absurd (apart (codes "Emax") (codes "Emin") refl (same_op v (codes "Emax") (codes "Emin") h.0 k.0))
  same_values v (least_reward r1) greatest p q l h k = absurd (apart (codes "Emin") (codes "Pmax") refl (same_op v (codes "Emin") (codes "Pmax") h.0 k.0))
  same_values v (least_reward r1) least p q l h k = absurd (apart (codes "Emin") (codes "Pmin") refl (same_op v (codes "Emin") (codes "Pmin") h.0 k.0))
  same_values v (least_reward r1) (bounded c2 e2) p q l h k = absurd (apart _ (codes "Emin") ((no_word c2).1.1.1.0) (same_op v _ (codes "Emin") k.0 h.0))
  same_values v (least_reward r1) (greatest_reward r2) p q l h k = absurd (apart (codes "Emin") (codes "Emax") refl (same_op v (codes "Emin") (codes "Emax") h.0 k.0))
  same_values v (least_reward r1) (least_reward r2) p q l h k = let s = same_reward v _ _ r1 r2 p q l h k in (ap least_reward s.0, s.1)

  single_title : (v : Node) (x y : Option Name) → IsTitle v x → IsTitle v y → x ≡ y
  single_title v None y p q = absurd p
  single_title v (Some x) None p q = absurd q
  single_title v (Some x) (Some y) p q = ap (λ (z : Name). Some z) (single_text v x y p q)

  -- ---- properties

  same_property : (v : Node) (x y : JaniProperty) → HasStructure rewards x.ask → IsProperty rewards v x → IsProperty rewards v y → x ≡ y
  same_property v x y l p q =
      let names : x.name ≡ y.name = single_some IsTitle single_title (part (codes "name") v) x.name y.name p.name q.name in
      let f = both (part (codes "expression") v) _ _ p.values q.values in
      let w = both (part (codes "values") f.0) _ _ f.1 f.2 in
      let s = same_values w.0 x.ask y.ask x.path y.path l w.1 w.2 in
      let same : ◌≡◌ {A = JaniProperty} (record { name = x.name; ask = x.ask; path = x.path }) (record { name = y.name; ask = y.ask; path = y.path }) = cc (names, s.0, s.1) in
      same

  same_each : (vs : Nodes) (xs ys : List JaniProperty) → Each (λ x. HasStructure rewards x.ask) xs → jani.Each (IsProperty rewards) vs xs → jani.Each (IsProperty rewards) vs ys → xs ≡ ys
  same_each no_nodes [] [] l p q = refl
  same_each no_nodes [] (y ∷ ys) l p q = absurd q
  same_each no_nodes (x ∷ xs) ys l p q = absurd p
  same_each (more_nodes v vs) [] ys l p q = absurd p
  same_each (more_nodes v vs) (x ∷ xs) [] l p q = absurd q
  same_each (more_nodes v vs) (x ∷ xs) (y ∷ ys) l p q = ap₂ (λ z zs. z ∷ zs) (same_property v x y l.0 p.0 q.0) (same_each vs xs ys l.1 p.1 q.1)

  pub single_properties : (v : Node) (xs ys : List JaniProperty) → Each (λ x. HasStructure rewards x.ask) xs → AreProperties rewards v xs → AreProperties rewards v ys → xs ≡ ys
  single_properties v xs ys l p q = same_each (items_in v) xs ys l p.items q.items
