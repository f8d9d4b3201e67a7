-- A value spells one list of written properties, the places of their names included; and a file whose properties are read has no first
-- fault.
use Rattle.std.proofs.Common.{◌≡◌, ℕ, refl, sym, ap, ap₂, ◌∙◌, List, [], ◌∷◌, Some, None, if◌then◌else◌}
use Rattle.std.specs.Prelude.{bytes_eq, codes}
use Rattle.bridge_io.specs.declared.reason.Named.{Named}
use Rattle.jani_table.specs.declared.operator.JaniOp.TheVariants as J
use Rattle.jani_table.specs.Node.{Node, text, Nodes, no_nodes, more_nodes, at_of}
use Rattle.jani_table.specs.Operators.{op_text}
use Rattle.name_rules.specs.Least.{IsAmong}
use Rattle.name_rules.proofs.Plain.{no_least}
use Rattle.jani_table.specs.Faults.{items_in}
use Rattle.jani_tree.specs.Syntax.{Expression}
use Rattle.jani_tree.specs.Jani.{Each, IsText, IsNamed}
use Rattle.prop_grammar.specs.declared.syntax.Compare.{Compare}
use Rattle.prop_grammar.specs.declared.syntax.Compare.TheVariants as C
use Rattle.prop_grammar.specs.Property.{Ask, greatest, least, bounded, greatest_reward, least_reward, Path, finally}
use Rattle.prop_trees.specs.JaniText.{part, Is, HasOp, IsExpression, IsPath, IsProbability, IsReached, compared_by, side_of}
use Rattle.prop_trees.proofs.Single.{Single, both, single_expression, single_path}
use Rattle.jani_props.specs.Syntax.{Written}
use Rattle.jani_props.specs.Spelled.{IsAsked, IsRewardOf, IsTitled, IsWritten}
use Rattle.jani_props.specs.Faults.{name_faults, type_faults}
use Rattle.jani_props.specs.Reading.{of_shape, of_names, of_types}
use Rattle.jani_props.specs.Laws.{OneWritten, ReadHaveNoFault}

-- ---- texts, names and expressions

-- what stands at a member, where a value spells one thing at most
at_part : {A : Type 0} (P : Node → A → Type 0) → Single P → (k : List ℕ) (v : Node) (x y : A) → Is k v (λ w. P w x) → Is k v (λ w. P w y) → x ≡ y
at_part P single k v x y i j = let b = both (part k v) (λ w. P w x) (λ w. P w y) i j in single b.0 x y b.1 b.2

abbrev text_in : Node → List ℕ
text_in (text at s) = s
text_in v = []

text_is : (v : Node) (s : List ℕ) → IsText v s → text_in v ≡ s
text_is (text at t) s i = i
text_is v s i = absurd i

single_text : Single IsText
single_text v s t i j = sym (text_is v s i) ∙ text_is v t j

same_op : (v : Node) (s t : List ℕ) → HasOp s v → HasOp t v → s ≡ t
same_op v s t i j = at_part IsText single_text (codes "op") v s t i j

abbrev named_in : Node → Named
named_in v = record { name = text_in v; at = at_of v }

single_named : Single IsNamed
single_named v n m i j = sym (ap named_in i) ∙ ap named_in j

single_title : Single IsTitled
single_title v (Some n) (Some m) i j = ap Some (single_named v n m i j)
single_title v (Some n) None i j = absurd j
single_title v None n i j = absurd i

reached_is : (v : Node) (p : Path Expression) → IsReached v p → (e : Expression) × (p ≡ finally e) × IsExpression v e
reached_is v (finally e) i = (e, refl, i)
reached_is v p i = absurd i

single_reached : Single IsReached
single_reached v p q i j =
    let h = reached_is v p i in
    let k = reached_is v q j in
    h.1 ∙ (ap finally (single_expression v h.0 k.0 h.2 k.2) ∙ sym k.1)

-- ---- what is asked, of which paths

-- the word of a query
abbrev word_of : Ask Expression Named → List ℕ
word_of greatest = codes "Pmax"
word_of least = codes "Pmin"
word_of (bounded c e) = op_text (compared_by c)
word_of (greatest_reward n) = codes "Emax"
word_of (least_reward n) = codes "Emin"

has_word : (v : Node) (a : Ask Expression Named) (p : Path Expression) → IsAsked v a p → HasOp (word_of a) v
has_word v greatest p i = i.0
has_word v least p i = i.0
has_word v (bounded c e) p i = i.0
has_word v (greatest_reward n) p i = i.0
has_word v (least_reward n) p i = i.0

-- the kind of a query, and that of its word
abbrev kind_of : Ask Expression Named → ℕ
kind_of greatest = 0
kind_of least = 1
kind_of (bounded c e) = 4
kind_of (greatest_reward n) = 2
kind_of (least_reward n) = 3

abbrev word_kind : List ℕ → ℕ
word_kind s = if bytes_eq s (codes "Pmax") then 0 else if bytes_eq s (codes "Pmin") then 1 else if bytes_eq s (codes "Emax") then 2 else if bytes_eq s (codes "Emin") then 3 else 4

kind_is : (a : Ask Expression Named) → word_kind (word_of a) ≡ kind_of a
kind_is greatest = refl
kind_is least = refl
kind_is (bounded C.Less e) = refl
kind_is (bounded C.AtMost e) = refl
kind_is (bounded C.AtLeast e) = refl
kind_is (bounded C.Greater e) = refl
kind_is (greatest_reward n) = refl
kind_is (least_reward n) = refl

-- the comparison with this word
abbrev compare_by : List ℕ → Compare
compare_by s = if bytes_eq s (op_text J.Less) then C.Less else if bytes_eq s (op_text J.AtMost) then C.AtMost else if bytes_eq s (op_text J.AtLeast) then C.AtLeast else C.Greater

compare_is : (c : Compare) → compare_by (op_text (compared_by c)) ≡ c
compare_is C.Less = refl
compare_is C.AtMost = refl
compare_is C.AtLeast = refl
compare_is C.Greater = refl

same_probability : (v : Node) (s t : List ℕ) (p q : Path Expression) → IsProbability s v p → IsProbability t v q → p ≡ q
same_probability v s t p q i j = at_part IsPath single_path (codes "exp") v p q i.1 j.1

same_reward : (v : Node) (s t : List ℕ) (n m : Named) (p q : Path Expression) → IsRewardOf s v n p → IsRewardOf t v m q → (n ≡ m) × (p ≡ q)
same_reward v s t n m p q i j = (at_part IsNamed single_named (codes "exp") v n m i.1 j.1, at_part IsReached single_reached (codes "reach") v p q i.2 j.2)

same_asked : (v : Node) (a b : Ask Expression Named) (p q : Path Expression) → kind_of a ≡ kind_of b → IsAsked v a p → IsAsked v b q → (a ≡ b) × (p ≡ q)
same_asked v greatest greatest p q k i j = (refl, same_probability v (codes "Pmax") (codes "Pmax") p q i j)
same_asked v least least p q k i j = (refl, same_probability v (codes "Pmin") (codes "Pmin") p q i j)
same_asked v (bounded c e) (bounded d f) p q k i j =
    let compare : c ≡ d = sym (compare_is c) ∙ (ap compare_by (same_op v (op_text (compared_by c)) (op_text (compared_by d)) i.0 j.0) ∙ compare_is d) in
    let b = both (part (codes "left") v) (λ w. IsProbability (side_of c) w p) (λ w. IsProbability (side_of d) w q) i.1 j.1 in
    (ap₂ bounded compare (at_part IsExpression single_expression (codes "right") v e f i.2 j.2), same_probability b.0 (side_of c) (side_of d) p q b.1 b.2)
same_asked v (greatest_reward n) (greatest_reward m) p q k i j = let h = same_reward v (codes "Emax") (codes "Emax") n m p q i j in (ap greatest_reward h.0, h.1)
same_asked v (least_reward n) (least_reward m) p q k i j = let h = same_reward v (codes "Emin") (codes "Emin") n m p q i j in (ap least_reward h.0, h.1)
same_asked v a b p q k i j = absurd cc

asked_is : (v : Node) (a b : Ask Expression Named) (p q : Path Expression) → IsAsked v a p → IsAsked v b q → (a ≡ b) × (p ≡ q)
asked_is v a b p q i j = same_asked v a b p q (sym (kind_is a) ∙ (ap word_kind (same_op v (word_of a) (word_of b) (has_word v a p i) (has_word v b q j)) ∙ kind_is b)) i j

-- ---- properties

same_written : (v : Node) (p q : Written) → IsWritten v p → IsWritten v q → p ≡ q
same_written v p q i j =
    let names : p.name ≡ q.name = at_part IsTitled single_title (codes "name") v p.name q.name i.name j.name in
    let f = both (part (codes "expression") v) (λ f. Is (codes "values") f (λ w. IsAsked w p.ask p.path)) (λ f. Is (codes "values") f (λ w. IsAsked w q.ask q.path)) i.values j.values in
    let w = both (part (codes "values") f.0) (λ w. IsAsked w p.ask p.path) (λ w. IsAsked w q.ask q.path) f.1 f.2 in
    let s = asked_is w.0 p.ask q.ask p.path q.path w.1 w.2 in
    let same : ◌≡◌ {A = Written} (record { name = p.name; ask = p.ask; path = p.path }) (record { name = q.name; ask = q.ask; path = q.path }) = cc (names, s.0, s.1) in
    same

same_each : (vs : Nodes) (ps qs : List Written) → Each IsWritten vs ps → Each IsWritten vs qs → ps ≡ qs
same_each no_nodes [] [] i j = refl
same_each (more_nodes v vs) (p ∷ ps) (q ∷ qs) i j = ap₂ (λ x xs. x ∷ xs) (same_written v p q i.0 j.0) (same_each vs ps qs i.1 j.1)
same_each no_nodes (p ∷ ps) qs i j = absurd i
same_each no_nodes [] (q ∷ qs) i j = absurd j
same_each (more_nodes v vs) [] qs i j = absurd i
same_each (more_nodes v vs) (p ∷ ps) [] i j = absurd j

pub one_written : OneWritten
one_written v ps qs i j = same_each (items_in v) ps qs i.items j.items

-- ---- no first fault

pub no_first_fault : ReadHaveNoFault
no_first_fault file ps f r (of_shape l) = no_least _ f r.shape l
no_first_fault file ps f r (of_names qs s w l) =
    no_least (name_faults file qs) f (ap (name_faults file) (one_written file.properties qs r.are.sound.written w r.written) ∙ r.are.sound.names) l
no_first_fault file ps f r (of_types qs s w n l) =
    no_least (type_faults file qs) f (ap (type_faults file) (one_written file.properties qs r.are.sound.written w r.written) ∙ r.are.sound.types) l
