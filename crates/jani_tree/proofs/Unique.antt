-- A value spells one tree.
use Rattle.std.proofs.Common.{◌≡◌, ℕ, refl, sym, ap, ap₂, ◌∙◌, List, [], ◌∷◌, Option, Some, None, Bool, true, false}
use Rattle.std.specs.Prelude.{IsSomeAnd}
use Rattle.bridge_io.specs.declared.reason.Named.{Named}
use Rattle.op_trees.specs.declared.tree.Ty.{Ty}
use Rattle.op_trees.specs.declared.tree.Ty.TheVariants as T
use Rattle.op_trees.specs.Tree.{Truth, Number, Name, One, Two, Three}
use Rattle.jani_table.specs.declared.key.Key.{Key}
use Rattle.jani_table.specs.declared.key.Key.TheVariants as K
use Rattle.jani_table.specs.declared.table.Kind.{Kind}
use Rattle.jani_table.specs.declared.operator.JaniOp.{JaniOp}
use Rattle.jani_table.specs.Node.{Node, null, truth, number, text, array, object, Nodes, no_nodes, more_nodes}
use Rattle.jani_table.specs.Words.{ty_of}
use Rattle.jani_table.specs.Faults.{part, items_in}
use Rattle.jani_tree.specs.Syntax.{Expression, Const, VarKind, bounded, Var, Write, Location, Destination, Edge, Automaton, Element, Vector, File}
use Rattle.jani_tree.specs.Jani.{Optional, Each, IsItems, IsList, IsListAt, IsText, IsNamed, IsKeyed, IsOperation, IsExpr, IsBoxed, IsWord, IsRange, Range, real_range, half_range, whole_range, range_in, IsKind, IsKindAt, IsConst, IsVar, IsWrite, IsLocation, IsDestination, IsEdge, IsAutomaton, IsElement, IsPart, IsVector, IsSystem, unless_always, IsKept, IsFile}

both : (o : Option Node) (P Q : Node → Type 0) → IsSomeAnd o P → IsSomeAnd o Q → (w : Node) × P w × Q w
both None P Q p q = absurd p
both (Some w) P Q p q = (w, p, q)

-- ---- expressions

is_object : Node → Bool
is_object (object at ms close) = true
is_object _ = false

operation_object : (v : Node) (at : ℕ) (o : JaniOp) (k : Kind) → IsOperation v at o k → is_object v ≡ true
unfolding is_object
operation_object (object at ms close) _ o k i = refl
operation_object (null at) _ o k i = cc
operation_object (truth at b) _ o k i = cc
operation_object (number at d) _ o k i = cc
operation_object (text at s) _ o k i = cc
operation_object (array at vs) _ o k i = cc

pub same_op : (v : Node) (at at2 : ℕ) (o p : JaniOp) (k l : Kind) → IsOperation v at o k → IsOperation v at2 p l → (at ≡ at2) × (o ≡ p) × (k ≡ l)
same_op v at at2 o p k l i j =
    let e : o ≡ p = cc (i.op, j.op) in (cc (i.offset, j.offset), e, cc (i.takes, j.takes, e))

leaf_not : (v w : Node) (at : ℕ) (o : JaniOp) (k : Kind) → v ≡ w → IsOperation v at o k → is_object w ≡ true
leaf_not v w at o k e i = ap is_object (sym e) ∙ operation_object v at o k i

pub same_expr : (v : Node) (s t : Expression) → IsExpr v s → IsExpr v t → s ≡ t
unfolding is_object
same_expr v (Truth at b) (Truth at2 c) e f = cc
same_expr v (Truth at b) (Number at2 c) e f = cc
same_expr v (Truth at b) (Name at2 c) e f = cc
same_expr v (Truth at b) (One at2 o x) e f = absurd (cc (leaf_not v _ _ _ _ e f.0))
same_expr v (Truth at b) (Two at2 o x y) e f = absurd (cc (leaf_not v _ _ _ _ e f.0))
same_expr v (Truth at b) (Three at2 o x y z) e f = absurd (cc (leaf_not v _ _ _ _ e f.0))
same_expr v (Number at b) (Truth at2 c) e f = cc
same_expr v (Number at b) (Number at2 c) e f = cc
same_expr v (Number at b) (Name at2 c) e f = cc
same_expr v (Number at b) (One at2 o x) e f = absurd (cc (leaf_not v _ _ _ _ e f.0))
same_expr v (Number at b) (Two at2 o x y) e f = absurd (cc (leaf_not v _ _ _ _ e f.0))
same_expr v (Number at b) (Three at2 o x y z) e f = absurd (cc (leaf_not v _ _ _ _ e f.0))
same_expr v (Name at b) (Truth at2 c) e f = cc
same_expr v (Name at b) (Number at2 c) e f = cc
same_expr v (Name at b) (Name at2 c) e f = cc
same_expr v (Name at b) (One at2 o x) e f = absurd (cc (leaf_not v _ _ _ _ e f.0))
same_expr v (Name at b) (Two at2 o x y) e f = absurd (cc (leaf_not v _ _ _ _ e f.0))
same_expr v (Name at b) (Three at2 o x y z) e f = absurd (cc (leaf_not v _ _ _ _ e f.0))
same_expr v (One at o x) (Truth at2 c) e f = absurd (cc (leaf_not v _ _ _ _ f e.0))
same_expr v (One at o x) (Number at2 c) e f = absurd (cc (leaf_not v _ _ _ _ f e.0))
same_expr v (One at o x) (Name at2 c) e f = absurd (cc (leaf_not v _ _ _ _ f e.0))
same_expr v (One at o x) (One at2 p y) e f =
    let h = same_op v _ _ _ _ _ _ e.0 f.0 in
    let a = both (part K.Exp v) (λ w. IsExpr w x) (λ w. IsExpr w y) e.1 f.1 in
    let i : x ≡ y = same_expr a.0 x y a.1 a.2 in cc (h.0, h.1, i)
same_expr v (One at o x) (Two at2 p y z) e f = absurd (cc ((same_op v _ _ _ _ _ _ e.0 f.0).2))
same_expr v (One at o x) (Three at2 p y z u) e f = absurd (cc ((same_op v _ _ _ _ _ _ e.0 f.0).2))
same_expr v (Two at o x y1) (Truth at2 c) e f = absurd (cc (leaf_not v _ _ _ _ f e.0))
same_expr v (Two at o x y1) (Number at2 c) e f = absurd (cc (leaf_not v _ _ _ _ f e.0))
same_expr v (Two at o x y1) (Name at2 c) e f = absurd (cc (leaf_not v _ _ _ _ f e.0))
same_expr v (Two at o x y1) (One at2 p y) e f = absurd (cc ((same_op v _ _ _ _ _ _ e.0 f.0).2))
same_expr v (Two at o x y1) (Two at2 p y y2) e f =
    let h = same_op v _ _ _ _ _ _ e.0 f.0 in
    let a = both (part K.Left v) (λ w. IsExpr w x) (λ w. IsExpr w y) e.1 f.1 in
    let b = both (part K.Right v) (λ w. IsExpr w y1) (λ w. IsExpr w y2) e.2 f.2 in
    let i : x ≡ y = same_expr a.0 x y a.1 a.2 in
    let j : y1 ≡ y2 = same_expr b.0 y1 y2 b.1 b.2 in cc (h.0, h.1, i, j)
same_expr v (Two at o x y1) (Three at2 p y z u) e f = absurd (cc ((same_op v _ _ _ _ _ _ e.0 f.0).2))
same_expr v (Three at o x y1 z1) (Truth at2 c) e f = absurd (cc (leaf_not v _ _ _ _ f e.0))
same_expr v (Three at o x y1 z1) (Number at2 c) e f = absurd (cc (leaf_not v _ _ _ _ f e.0))
same_expr v (Three at o x y1 z1) (Name at2 c) e f = absurd (cc (leaf_not v _ _ _ _ f e.0))
same_expr v (Three at o x y1 z1) (One at2 p y) e f = absurd (cc ((same_op v _ _ _ _ _ _ e.0 f.0).2))
same_expr v (Three at o x y1 z1) (Two at2 p y z) e f = absurd (cc ((same_op v _ _ _ _ _ _ e.0 f.0).2))
same_expr v (Three at o x y1 z1) (Three at2 p y y2 y3) e f =
    let h = same_op v _ _ _ _ _ _ e.0 f.0 in
    let a = both (part K.If v) (λ w. IsExpr w x) (λ w. IsExpr w y) e.1 f.1 in
    let b = both (part K.Then v) (λ w. IsExpr w y1) (λ w. IsExpr w y2) e.2 f.2 in
    let c = both (part K.Else v) (λ w. IsExpr w z1) (λ w. IsExpr w y3) e.3 f.3 in
    let i : x ≡ y = same_expr a.0 x y a.1 a.2 in
    let j : y1 ≡ y2 = same_expr b.0 y1 y2 b.1 b.2 in
    let k : z1 ≡ y3 = same_expr c.0 z1 y3 c.1 c.2 in cc (h.0, h.1, i, j, k)

-- ---- members and lists

-- the relation gives one tree at most
abbrev Single : {A : Type 0} → (Node → A → Type 0) → Type 0
Single {A} P = (v : Node) (x y : A) → P v x → P v y → x ≡ y

same_some : {A : Type 0} (P : Node → A → Type 0) (o : Option Node) (x y : A) → Single P → IsSomeAnd o (λ w. P w x) → IsSomeAnd o (λ w. P w y) → x ≡ y
same_some P o x y h p q = let b = both o (λ w. P w x) (λ w. P w y) p q in h b.0 x y b.1 b.2

same_optional : {A : Type 0} (P : Node → A → Type 0) (o : Option Node) (x y : Option A) → Single P → Optional P o x → Optional P o y → x ≡ y
same_optional P None None None h p q = refl
same_optional P None None (Some y) h p q = absurd q
same_optional P None (Some x) y h p q = absurd p
same_optional P (Some v) None y h p q = absurd p
same_optional P (Some v) (Some x) None h p q = absurd q
same_optional P (Some v) (Some x) (Some y) h p q = ap Some (h v x y p q)

same_each : {A : Type 0} (P : Node → A → Type 0) (vs : Nodes) (xs ys : List A) → Single P → Each P vs xs → Each P vs ys → xs ≡ ys
same_each P no_nodes [] [] h p q = refl
same_each P no_nodes [] (y ∷ ys) h p q = absurd q
same_each P no_nodes (x ∷ xs) ys h p q = absurd p
same_each P (more_nodes v vs) [] ys h p q = absurd p
same_each P (more_nodes v vs) (x ∷ xs) [] h p q = absurd q
same_each P (more_nodes v vs) (x ∷ xs) (y ∷ ys) h p q = ap₂ (λ z zs. z ∷ zs) (h v x y p.0 q.0) (same_each P vs xs ys h p.1 q.1)

same_items : {A : Type 0} (P : Node → A → Type 0) (v : Node) (xs ys : List A) → Single P → IsItems P v xs → IsItems P v ys → xs ≡ ys
same_items P v xs ys h p q = same_each P (items_in v) xs ys h p.items q.items

same_list : {A : Type 0} (P : Node → A → Type 0) (o : Option Node) (xs ys : List A) → Single P → IsList P o xs → IsList P o ys → xs ≡ ys
same_list P None xs ys h p q = p ∙ sym q
same_list P (Some v) xs ys h p q = same_items P v xs ys h p q

same_list_at : {A : Type 0} (P : Node → A → Type 0) (o : Option Node) (xs ys : List A) (at at2 : ℕ) → Single P → IsSomeAnd o (λ w. IsListAt P w xs at) → IsSomeAnd o (λ w. IsListAt P w ys at2) → (xs ≡ ys) × (at ≡ at2)
same_list_at P o xs ys at at2 h p q =
    let b = both o (λ w. IsListAt P w xs at) (λ w. IsListAt P w ys at2) p q in
    (same_items P b.0 xs ys h b.1.items b.2.items, sym b.1.offset ∙ b.2.offset)

same_text : (v : Node) (s t : List ℕ) → IsText v s → IsText v t → s ≡ t
same_text (text at x) s t p q = sym p ∙ q
same_text (null at) s t p q = absurd p
same_text (truth at b) s t p q = absurd p
same_text (number at d) s t p q = absurd p
same_text (array at vs) s t p q = absurd p
same_text (object at ms close) s t p q = absurd p

named_same : (m n : Named) → m.name ≡ n.name → m.at ≡ n.at → m ≡ n
named_same m n e f = ap (λ x. record { name = x; at = m.at }) e ∙ ap (λ a. record { name = n.name; at = a }) f

same_named : (v : Node) (m n : Named) → IsNamed v m → IsNamed v n → m ≡ n
same_named v m n e f =
    let at : m.at ≡ n.at = cc (sym e ∙ f) in
    let name : m.name ≡ n.name = cc (sym e ∙ f) in
    named_same m n name at

same_keyed : (key : Key) (v : Node) (m n : Named) → IsKeyed key v m → IsKeyed key v n → m ≡ n
same_keyed key v m n p q = same_some IsNamed (part key v) m n same_named p q

same_boxed : (v : Node) (e f : Expression) → IsBoxed v e → IsBoxed v f → e ≡ f
same_boxed v e f p q = same_some IsExpr (part K.Exp v) e f same_expr p q

same_part : (v : Node) (x y : Option Named) → IsPart v x → IsPart v y → x ≡ y
same_part v None None p q = refl
same_part v None (Some n) p q = absurd (cc (sym p ∙ q))
same_part v (Some m) None p q = absurd (cc (sym p ∙ q))
same_part v (Some m) (Some n) p q = ap Some (same_named v m n p q)

-- ---- types

some_same : {A : Type 0} {x y : A} → Some x ≡ Some y → x ≡ y
some_same e = cc

same_word : (o : Option Ty) (k l : VarKind) → IsWord o k → IsWord o l → k ≡ l
same_word None k l p q = absurd p
same_word (Some T.Bool) k l p q = p ∙ sym q
same_word (Some T.Int) k l p q = p ∙ sym q
same_word (Some T.Real) k l p q = p ∙ sym q

same_range : (o : Option Range) (k l : VarKind) → IsRange o k → IsRange o l → k ≡ l
same_range None k l p q = absurd p
same_range (Some real_range) k l p q = p ∙ sym q
same_range (Some half_range) k l p q = p ∙ sym q
same_range (Some (whole_range low high)) k l p q =
    p.kind ∙ (ap₂ bounded (same_expr low p.first q.first p.low_is q.low_is) (same_expr high p.last q.last p.high_is q.high_is) ∙ sym q.kind)

same_kind : (v : Node) (k l : VarKind) → IsKind v k → IsKind v l → k ≡ l
same_kind (text at s) k l p q = same_word (ty_of s) k l p q
same_kind (null at) k l p q = same_range (range_in (null at)) k l p q
same_kind (truth at b) k l p q = same_range (range_in (truth at b)) k l p q
same_kind (number at d) k l p q = same_range (range_in (number at d)) k l p q
same_kind (array at vs) k l p q = same_range (range_in (array at vs)) k l p q
same_kind (object at ms close) k l p q = same_range (range_in (object at ms close)) k l p q

same_kind_at : (o : Option Node) (k l : VarKind) (at at2 : ℕ) → IsSomeAnd o (λ w. IsKindAt w k at) → IsSomeAnd o (λ w. IsKindAt w l at2) → (k ≡ l) × (at ≡ at2)
same_kind_at o k l at at2 p q =
    let b = both o (λ w. IsKindAt w k at) (λ w. IsKindAt w l at2) p q in
    (same_kind b.0 k l b.1.kind b.2.kind, sym b.1.offset ∙ b.2.offset)

-- ---- objects

same_const : (v : Node) (c d : Const) → IsConst v c → IsConst v d → c ≡ d
same_const v c d p q =
    ap {B = Const} (λ x. record { name = x; ty = c.ty; value = c.value; note = c.note }) (same_keyed K.Name v c.name d.name p.name q.name)
    ∙ (ap {B = Const} (λ x. record { name = d.name; ty = x; value = c.value; note = c.note }) (some_same (sym p.ty ∙ q.ty))
    ∙ (ap {B = Const} (λ x. record { name = d.name; ty = d.ty; value = x; note = c.note }) (same_optional IsExpr (part K.Value v) c.value d.value same_expr p.value q.value)
    ∙ ap {B = Const} (λ x. record { name = d.name; ty = d.ty; value = d.value; note = x }) (same_optional IsText (part K.Comment v) c.note d.note same_text p.note q.note)))

same_var : (v : Node) (c d : Var) → IsVar v c → IsVar v d → c ≡ d
same_var v c d p q =
    let kinds = same_kind_at (part K.Type v) c.kind d.kind c.kind_at d.kind_at p.kind q.kind in
    ap {B = Var} (λ x. record { name = x; kind = c.kind; kind_at = c.kind_at; transient = c.transient; start = c.start; note = c.note }) (same_keyed K.Name v c.name d.name p.name q.name)
    ∙ (ap {B = Var} (λ x. record { name = d.name; kind = x; kind_at = c.kind_at; transient = c.transient; start = c.start; note = c.note }) (kinds.0)
    ∙ (ap {B = Var} (λ x. record { name = d.name; kind = d.kind; kind_at = x; transient = c.transient; start = c.start; note = c.note }) (kinds.1)
    ∙ (ap {B = Var} (λ x. record { name = d.name; kind = d.kind; kind_at = d.kind_at; transient = x; start = c.start; note = c.note }) (p.transient ∙ sym q.transient)
    ∙ (ap {B = Var} (λ x. record { name = d.name; kind = d.kind; kind_at = d.kind_at; transient = d.transient; start = x; note = c.note }) (same_optional IsExpr (part K.InitialValue v) c.start d.start same_expr p.start q.start)
    ∙ ap {B = Var} (λ x. record { name = d.name; kind = d.kind; kind_at = d.kind_at; transient = d.transient; start = d.start; note = x }) (same_optional IsText (part K.Comment v) c.note d.note same_text p.note q.note)))))

same_write : (v : Node) (c d : Write) → IsWrite v c → IsWrite v d → c ≡ d
same_write v c d p q =
    ap {B = Write} (λ x. record { target = x; value = c.value }) (same_keyed K.Ref v c.target d.target p.target q.target)
    ∙ ap {B = Write} (λ x. record { target = d.target; value = x }) (same_some IsExpr (part K.Value v) c.value d.value same_expr p.value q.value)

same_location : (v : Node) (c d : Location) → IsLocation v c → IsLocation v d → c ≡ d
same_location v c d p q =
    ap {B = Location} (λ x. record { name = x; values = c.values }) (same_keyed K.Name v c.name d.name p.name q.name)
    ∙ ap {B = Location} (λ x. record { name = d.name; values = x }) (same_list IsWrite (part K.TransientValues v) c.values d.values same_write p.values q.values)

same_destination : (v : Node) (c d : Destination) → IsDestination v c → IsDestination v d → c ≡ d
same_destination v c d p q =
    ap {B = Destination} (λ x. record { location = x; weight = c.weight; writes = c.writes }) (same_keyed K.Location v c.location d.location p.location q.location)
    ∙ (ap {B = Destination} (λ x. record { location = d.location; weight = x; writes = c.writes }) (same_optional IsBoxed (part K.Probability v) c.weight d.weight same_boxed p.weight q.weight)
    ∙ ap {B = Destination} (λ x. record { location = d.location; weight = d.weight; writes = x }) (same_list IsWrite (part K.Assignments v) c.writes d.writes same_write p.writes q.writes))

same_edge : (v : Node) (c d : Edge) → IsEdge v c → IsEdge v d → c ≡ d
same_edge v c d p q =
    let lists = same_list_at IsDestination (part K.Destinations v) c.destinations d.destinations c.at d.at same_destination p.destinations q.destinations in
    ap {B = Edge} (λ x. record { location = x; action = c.action; guard = c.guard; destinations = c.destinations; at = c.at }) (same_keyed K.Location v c.location d.location p.location q.location)
    ∙ (ap {B = Edge} (λ x. record { location = d.location; action = x; guard = c.guard; destinations = c.destinations; at = c.at }) (same_optional IsNamed (part K.Action v) c.action d.action same_named p.action q.action)
    ∙ (ap {B = Edge} (λ x. record { location = d.location; action = d.action; guard = x; destinations = c.destinations; at = c.at }) (same_optional IsBoxed (part K.Guard v) c.guard d.guard same_boxed p.guard q.guard)
    ∙ (ap {B = Edge} (λ x. record { location = d.location; action = d.action; guard = d.guard; destinations = x; at = c.at }) (lists.0)
    ∙ ap {B = Edge} (λ x. record { location = d.location; action = d.action; guard = d.guard; destinations = d.destinations; at = x }) (lists.1))))

same_automaton : (v : Node) (c d : Automaton) → IsAutomaton v c → IsAutomaton v d → c ≡ d
same_automaton v c d p q =
    ap {B = Automaton} (λ x. record { name = x; variables = c.variables; locations = c.locations; initial = c.initial; edges = c.edges }) (same_keyed K.Name v c.name d.name p.name q.name)
    ∙ (ap {B = Automaton} (λ x. record { name = d.name; variables = x; locations = c.locations; initial = c.initial; edges = c.edges }) (same_list IsVar (part K.Variables v) c.variables d.variables same_var p.variables q.variables)
    ∙ (ap {B = Automaton} (λ x. record { name = d.name; variables = d.variables; locations = x; initial = c.initial; edges = c.edges }) (same_list IsLocation (part K.Locations v) c.locations d.locations same_location p.locations q.locations)
    ∙ (ap {B = Automaton} (λ x. record { name = d.name; variables = d.variables; locations = d.locations; initial = x; edges = c.edges }) (same_list IsNamed (part K.InitialLocations v) c.initial d.initial same_named p.initial q.initial)
    ∙ ap {B = Automaton} (λ x. record { name = d.name; variables = d.variables; locations = d.locations; initial = d.initial; edges = x }) (same_list IsEdge (part K.Edges v) c.edges d.edges same_edge p.edges q.edges))))

same_element : (v : Node) (c d : Element) → IsElement v c → IsElement v d → c ≡ d
same_element v c d p q =
    ap {B = Element} (λ x. record { name = x; enable = c.enable }) (same_keyed K.Automaton v c.name d.name p.name q.name)
    ∙ ap {B = Element} (λ x. record { name = d.name; enable = x }) (same_list IsNamed (part K.InputEnable v) c.enable d.enable same_named p.enable q.enable)

same_vector : (v : Node) (c d : Vector) → IsVector v c → IsVector v d → c ≡ d
same_vector v c d p q =
    let lists = same_list_at IsPart (part K.Synchronise v) c.parts d.parts c.at d.at same_part p.parts q.parts in
    ap {B = Vector} (λ x. record { parts = x; result = c.result; at = c.at }) (lists.0)
    ∙ (ap {B = Vector} (λ x. record { parts = d.parts; result = x; at = c.at }) (same_optional IsNamed (part K.Result v) c.result d.result same_named p.result q.result)
    ∙ ap {B = Vector} (λ x. record { parts = d.parts; result = d.result; at = x }) (lists.1))

same_kept : (o : Option Node) (x y : Node) → IsKept o x → IsKept o y → x ≡ y
same_kept None x y p q = p ∙ sym q
same_kept (Some v) x y p q = p ∙ sym q

pub same_file : (v : Node) (c d : File) → IsFile v c → IsFile v d → c ≡ d
same_file v c d p q =
    let system = both (part K.System v) (λ s. IsSystem s c.elements c.elements_at c.vectors) (λ s. IsSystem s d.elements d.elements_at d.vectors) p.system q.system in
    let elements = same_list_at IsElement (part K.Elements system.0) c.elements d.elements c.elements_at d.elements_at same_element system.1.elements_are system.2.elements_are in
    ap {B = File} (λ x. record { actions = x; constants = c.constants; variables = c.variables; restrict = c.restrict; automata = c.automata; elements = c.elements; elements_at = c.elements_at; vectors = c.vectors; properties = c.properties }) (same_list (IsKeyed K.Name) (part K.Actions v) c.actions d.actions (same_keyed K.Name) p.actions q.actions)
    ∙ (ap {B = File} (λ x. record { actions = d.actions; constants = x; variables = c.variables; restrict = c.restrict; automata = c.automata; elements = c.elements; elements_at = c.elements_at; vectors = c.vectors; properties = c.properties }) (same_list IsConst (part K.Constants v) c.constants d.constants same_const p.constants q.constants)
    ∙ (ap {B = File} (λ x. record { actions = d.actions; constants = d.constants; variables = x; restrict = c.restrict; automata = c.automata; elements = c.elements; elements_at = c.elements_at; vectors = c.vectors; properties = c.properties }) (same_list IsVar (part K.Variables v) c.variables d.variables same_var p.variables q.variables)
    ∙ (ap {B = File} (λ x. record { actions = d.actions; constants = d.constants; variables = d.variables; restrict = x; automata = c.automata; elements = c.elements; elements_at = c.elements_at; vectors = c.vectors; properties = c.properties }) (same_optional IsBoxed (unless_always (part K.RestrictInitial v)) c.restrict d.restrict same_boxed p.restrict q.restrict)
    ∙ (ap {B = File} (λ x. record { actions = d.actions; constants = d.constants; variables = d.variables; restrict = d.restrict; automata = x; elements = c.elements; elements_at = c.elements_at; vectors = c.vectors; properties = c.properties }) (same_list IsAutomaton (part K.Automata v) c.automata d.automata same_automaton p.automata q.automata)
    ∙ (ap {B = File} (λ x. record { actions = d.actions; constants = d.constants; variables = d.variables; restrict = d.restrict; automata = d.automata; elements = x; elements_at = c.elements_at; vectors = c.vectors; properties = c.properties }) (elements.0)
    ∙ (ap {B = File} (λ x. record { actions = d.actions; constants = d.constants; variables = d.variables; restrict = d.restrict; automata = d.automata; elements = d.elements; elements_at = x; vectors = c.vectors; properties = c.properties }) (elements.1)
    ∙ (ap {B = File} (λ x. record { actions = d.actions; constants = d.constants; variables = d.variables; restrict = d.restrict; automata = d.automata; elements = d.elements; elements_at = d.elements_at; vectors = x; properties = c.properties }) (same_list IsVector (part K.Syncs system.0) c.vectors d.vectors same_vector system.1.vectors_are system.2.vectors_are)
    ∙ ap {B = File} (λ x. record { actions = d.actions; constants = d.constants; variables = d.variables; restrict = d.restrict; automata = d.automata; elements = d.elements; elements_at = d.elements_at; vectors = d.vectors; properties = x }) (same_kept (part K.Properties v) c.properties d.properties p.properties q.properties))))))))
