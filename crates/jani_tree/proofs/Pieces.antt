-- The canonical text of each object is made of the pieces that are written one behind the other.
use Rattle.std.proofs.Common.{◌≡◌, ℕ, ◌+◌, ◌<◌, ◌≤◌, refl, sym, ap, ap₂, ◌∙◌, List, [], ◌∷◌, ◌++◌, Option, Some, None, length, drop, get_or, append_assoc, map, map-id}
use Rattle.std.specs.Prelude.{codes, Result, Ok, Err, OnOk, is_ok, cond}
use Rattle.frac_core.specs.Text.{digits}
use Rattle.std.specs.Option.{option_map}
use Rattle.std.proofs.lemmas.List.{append-nil}
use Rattle.basics.specs.Lists.{drop_item}
use Rattle.bridge_io.specs.declared.reason.Named.{Named}
use Rattle.decimal_json.specs.Text.{behind_commas, quoted, with_commas}
use Rattle.jani_table.specs.declared.key.Key.{Key}
use Rattle.jani_table.specs.declared.key.Key.TheVariants as K
use Rattle.jani_table.specs.Node.{Node, Fields, no_fields, field, nodes_of}
use Rattle.jani_table.specs.NodeLaws.{drop_all}
use Rattle.jani_table.specs.Table.{spelled}
use Rattle.jani_table.specs.Words.{ty_text}
use Rattle.jani_table.specs.Operators.{op_text}
use Rattle.jani_table.specs.declared.operator.JaniOp.{JaniOp}
use Rattle.op_trees.specs.declared.tree.Ty.TheVariants as T
use Rattle.op_trees.specs.Tree.{Two, One, Three}
use Rattle.jani_tree.specs.Syntax as V
use Rattle.jani_tree.specs.Syntax.{Expression, Const, VarKind, Var, bounded, Location, Destination, Edge, Automaton, Element, Vector, File}
use Rattle.jani_tree.specs.Canonical.{bounded_word, version_node, features_node, file_members, with_entry, with_members, object_of, list_node, some_list, word, name_node, keyed_node, expr_node, boxed_node, kind_node, const_node, flag_node, var_node, write_node, location_node, destination_node, edge_node, automaton_node, part_node, element_node, vector_node, system_node}
use Rattle.jani_tree.specs.Text.{node_text, item_texts, member_texts, jani_text}
use Rattle.jani_tree.specs.Pieces.{if_some, keyed_text, list_text}

-- ---- pieces one behind the other

abbrev pub joined : List (List ℕ) → List ℕ
joined [] = []
joined (t ∷ ts) = t ++ joined ts

-- the text grows by each piece
abbrev pub Grows : List ℕ → List (List ℕ) → List ℕ → Type 0
Grows o [] end = end ≡ o
Grows o (t ∷ ts) end = (p : List ℕ) × (p ≡ o ++ t) × Grows p ts end

grown : (o : List ℕ) (ts : List (List ℕ)) (end : List ℕ) → Grows o ts end → end ≡ o ++ joined ts
grown o [] end g = g ∙ sym (append-nil o)
grown o (t ∷ ts) end g = grown g.0 ts end g.2 ∙ (ap (λ u. u ++ joined ts) g.1 ∙ append_assoc o t (joined ts))

-- what grew by the pieces of a text grew by the text
pub spelt : (o : List ℕ) (ts : List (List ℕ)) (end text : List ℕ) → text ≡ joined ts → Grows o ts end → end ≡ o ++ text
spelt o ts end text e g = grown o ts end g ∙ ap (λ u. o ++ u) (sym e)

-- the last piece, where it was written
pub ends : {A E P : Type 0} (r : Result A E) (now was last : List ℕ) → now ≡ cond (is_ok r) (was ++ last) was → (now ≡ was ++ last → P) → OnOk r P
ends (Ok x) now was last e f = f e
ends (Err x) now was last e f = tt

-- ---- objects

-- a comma and the key of a member
abbrev lead : Key → List ℕ
lead k = 0x2c ∷ (quoted (spelled k) ++ 0x3a ∷ [])

-- the members behind the first, and the closing brace
abbrev pub tail_text : List (Key × Option Node) → List ℕ
tail_text [] = codes "}"
tail_text (m ∷ ms) = if_some (lead m.0) m.1 ++ tail_text ms

entry_text : (k : Key) (v : Node) (ms : Fields) → behind_commas (member_texts (with_entry ms k v)) ≡ behind_commas (member_texts ms) ++ (lead k ++ node_text v)
entry_text k v no_fields = simp (append-nil, append_assoc)
entry_text k v (field n w rest) =
    ap (λ u. 0x2c ∷ ((quoted n.name ++ 0x3a ∷ node_text w) ++ u)) (entry_text k v rest)
    ∙ ap (λ u. 0x2c ∷ u) (sym (append_assoc (quoted n.name ++ 0x3a ∷ node_text w) (behind_commas (member_texts rest)) (lead k ++ node_text v)))

members_text : (n : Named) (v : Node) (made : Fields) (ms : List (Key × Option Node)) →
    with_commas (member_texts (with_members (field n v made) ms)) ++ codes "}" ≡ with_commas (member_texts (field n v made)) ++ tail_text ms
members_text n v made [] = refl
members_text n v made ((k, None) ∷ ms) = members_text n v made ms
members_text n v made ((k, Some w) ∷ ms) =
    members_text n v (with_entry made k w) ms
    ∙ (ap (λ u. ((quoted n.name ++ 0x3a ∷ node_text v) ++ u) ++ tail_text ms) (entry_text k w made)
    ∙ simp append_assoc)

-- An object whose first member has a value is a brace, that member, each other that has a value behind a comma, and a brace.
pub object_text : (at : ℕ) (k : Key) (v : Node) (ms : List (Key × Option Node)) →
    node_text (object_of at ((k, Some v) ∷ ms)) ≡ 0x7b ∷ (quoted (spelled k) ++ 0x3a ∷ (node_text v ++ tail_text ms))
object_text at k v ms =
    ap (λ u. 0x7b ∷ u) (members_text (record { name = spelled k; at = 0 }) v no_fields ms ∙ simp (append-nil, append_assoc))

-- ---- expressions

abbrev pub one_pieces : JaniOp → Expression → List (List ℕ)
one_pieces o a = (codes "{\"op\":" ++ quoted (op_text o)) ∷ (codes ",\"exp\":" ++ node_text (expr_node a)) ∷ codes "}" ∷ []

pub one_text : (at : ℕ) (o : JaniOp) (a : Expression) → node_text (expr_node (One at o a)) ≡ joined (one_pieces o a)
one_text at o a = object_text at K.Op (word (op_text o)) ((K.Exp, Some (expr_node a)) ∷ [])

abbrev pub two_pieces : JaniOp → Expression → Expression → List (List ℕ)
two_pieces o a b =
    (codes "{\"op\":" ++ quoted (op_text o)) ∷ (codes ",\"left\":" ++ node_text (expr_node a))
    ∷ (codes ",\"right\":" ++ node_text (expr_node b)) ∷ codes "}" ∷ []

pub two_text : (at : ℕ) (o : JaniOp) (a b : Expression) → node_text (expr_node (Two at o a b)) ≡ joined (two_pieces o a b)
two_text at o a b = object_text at K.Op (word (op_text o)) ((K.Left, Some (expr_node a)) ∷ (K.Right, Some (expr_node b)) ∷ [])

abbrev pub three_pieces : JaniOp → Expression → Expression → Expression → List (List ℕ)
three_pieces o a b c =
    (codes "{\"op\":" ++ quoted (op_text o)) ∷ (codes ",\"if\":" ++ node_text (expr_node a)) ∷ (codes ",\"then\":" ++ node_text (expr_node b))
    ∷ (codes ",\"else\":" ++ node_text (expr_node c)) ∷ codes "}" ∷ []

pub three_text : (at : ℕ) (o : JaniOp) (a b c : Expression) → node_text (expr_node (Three at o a b c)) ≡ joined (three_pieces o a b c)
three_text at o a b c = object_text at K.Op (word (op_text o)) ((K.If, Some (expr_node a)) ∷ (K.Then, Some (expr_node b)) ∷ (K.Else, Some (expr_node c)) ∷ [])

-- ---- lists

pub items_as : {A B : Type 0} (f : B → Node) (g : A → B) (xs : List A) → item_texts (nodes_of (map f (map g xs))) ≡ map (λ x. node_text (f (g x))) xs
items_as f g [] = refl
items_as f g (x ∷ xs) = ap (λ ts. node_text (f (g x)) ∷ ts) (items_as f g xs)

pub list_as : {A B : Type 0} (f : B → Node) (g : A → B) (xs : List A) → node_text (list_node f 0 (map g xs)) ≡ list_text (λ x. node_text (f (g x))) xs
list_as f g xs = ap (λ ts. 0x5b ∷ (with_commas ts ++ 0x5d ∷ [])) (items_as f g xs)

keyed_items : (k : Key) (names : List Named) → item_texts (nodes_of (map (keyed_node k) names)) ≡ map (keyed_text (0x7b ∷ (quoted (spelled k) ++ 0x3a ∷ []))) names
keyed_items k [] = refl
keyed_items k (n ∷ ns) = ap₂ (λ t ts. t ∷ ts) (object_text 0 k (name_node n) [] ∙ simp append_assoc) (keyed_items k ns)

pub keyed_as : (k : Key) (at : ℕ) (names : List Named) → node_text (list_node (keyed_node k) at names) ≡ list_text (keyed_text (0x7b ∷ (quoted (spelled k) ++ 0x3a ∷ []))) names
keyed_as k at names = ap (λ ts. 0x5b ∷ (with_commas ts ++ 0x5d ∷ [])) (keyed_items k names)

-- what is written and what is left is the whole list
pub more_next : {A : Type 0} (f : A → List ℕ) (xs : List A) (x : A) (i : ℕ) (start o p end : List ℕ) → i < length xs → x ≡ get_or xs i x →
    p ≡ o ++ codes "," → end ≡ p ++ f x → o ++ behind_commas (map f (drop i xs)) ≡ start → end ++ behind_commas (map f (drop (i + 1) xs)) ≡ start
more_next f xs x i start o p end h e a b inv =
    ap (λ u. u ++ behind_commas (map f (drop (i + 1) xs))) (b ∙ (ap (λ u. u ++ f x) a ∙ append_assoc o (codes ",") (f x)))
    ∙ (append_assoc o (codes "," ++ f x) (behind_commas (map f (drop (i + 1) xs)))
    ∙ (sym (ap (λ ys. o ++ behind_commas (map f ys)) (drop_item xs i x h e)) ∙ inv))

pub more_done : {A : Type 0} (f : A → List ℕ) (xs : List A) (i : ℕ) (start o : List ℕ) → length xs ≤ i → o ++ behind_commas (map f (drop i xs)) ≡ start → o ≡ start
more_done f xs i start o h inv = sym (append-nil o) ∙ (sym (ap (λ ys. o ++ behind_commas (map f ys)) (drop_all xs i h)) ∙ inv)

pub list_some : {A B : Type 0} (f : B → Node) (g : A → B) (trees xs more : List A) (x : A) (lead o l p q r end : List ℕ) → xs ≡ trees → xs ≡ x ∷ more →
    l ≡ o ++ lead → p ≡ l ++ codes "[" → q ≡ p ++ node_text (f (g x)) → r ≡ q ++ behind_commas (map (λ y. node_text (f (g y))) more) → end ≡ r ++ codes "]" →
    end ≡ o ++ (lead ++ node_text (list_node f 0 (map g trees)))
list_some f g trees xs more x lead o l p q r end e h w a b c d =
    spelt o (lead ∷ codes "[" ∷ node_text (f (g x)) ∷ behind_commas (map (λ y. node_text (f (g y))) more) ∷ codes "]" ∷ []) end _
    (ap (λ u. lead ++ u) (list_as f g trees ∙ (sym (ap (list_text (λ y. node_text (f (g y)))) (sym h ∙ e))
    ∙ ap (λ u. 0x5b ∷ u) (append_assoc (node_text (f (g x))) (behind_commas (map (λ y. node_text (f (g y))) more)) (codes "]")))))
    (_, w, (_, a, (_, b, (_, c, (_, d, refl)))))

-- ---- declarations

abbrev pub const_pieces : Const → List (List ℕ)
const_pieces c =
    (codes "{\"name\":" ++ quoted c.name.name) ∷ codes ",\"type\":" ∷ quoted (ty_text c.ty) ∷ if_some (codes ",\"value\":") (option_map expr_node c.value)
    ∷ if_some (codes ",\"comment\":") (option_map word c.note) ∷ codes "}" ∷ []

pub const_text : (c : Const) → node_text (const_node c) ≡ joined (const_pieces c)
const_text c = object_text 0 K.Name (name_node c.name) ((K.Type, Some (word (ty_text c.ty))) ∷ (K.Value, option_map expr_node c.value) ∷ (K.Comment, option_map word c.note) ∷ [])

abbrev pub bounded_pieces : Expression → Expression → List (List ℕ)
bounded_pieces low high =
    (codes "{\"kind\":\"bounded\",\"base\":\"int\",\"lower-bound\":" ++ node_text (expr_node low)) ∷ (codes ",\"upper-bound\":" ++ node_text (expr_node high)) ∷ codes "}" ∷ []

pub bounded_text : (low high : Expression) → node_text (kind_node 0 (bounded low high)) ≡ joined (bounded_pieces low high)
bounded_text low high = object_text 0 K.Kind bounded_word ((K.Base, Some (word (ty_text T.Int))) ∷ (K.LowerBound, Some (expr_node low)) ∷ (K.UpperBound, Some (expr_node high)) ∷ [])

-- the place of a type does not stand in its text
kind_aside : (at : ℕ) (k : VarKind) → node_text (kind_node at k) ≡ node_text (kind_node 0 k)
kind_aside at V.boolean = refl
kind_aside at V.integer = refl
kind_aside at V.number = refl
kind_aside at V.real_bounded = refl
kind_aside at V.one_sided = refl
kind_aside at (V.bounded low high) = refl

abbrev pub var_pieces : Var → List (List ℕ)
var_pieces x =
    (codes "{\"name\":" ++ quoted x.name.name) ∷ codes ",\"type\":" ∷ node_text (kind_node 0 x.kind) ∷ if_some (codes ",\"transient\":") (flag_node x.transient)
    ∷ if_some (codes ",\"initial-value\":") (option_map expr_node x.start) ∷ if_some (codes ",\"comment\":") (option_map word x.note) ∷ codes "}" ∷ []

pub var_text : (x : Var) → node_text (var_node x) ≡ joined (var_pieces x)
var_text x =
    object_text 0 K.Name (name_node x.name)
    ((K.Type, Some (kind_node x.kind_at x.kind)) ∷ (K.Transient, flag_node x.transient) ∷ (K.InitialValue, option_map expr_node x.start) ∷ (K.Comment, option_map word x.note) ∷ [])
    ∙ ap (λ u. (codes "{\"name\":" ++ quoted x.name.name) ++ (codes ",\"type\":" ++ (u ++ joined (if_some (codes ",\"transient\":") (flag_node x.transient)
    ∷ if_some (codes ",\"initial-value\":") (option_map expr_node x.start) ∷ if_some (codes ",\"comment\":") (option_map word x.note) ∷ codes "}" ∷ [])))) (kind_aside x.kind_at x.kind)

-- ---- automata

abbrev pub location_pieces : Location → List (List ℕ)
location_pieces l = (codes "{\"name\":" ++ quoted l.name.name) ∷ if_some (codes ",\"transient-values\":") (some_list write_node l.values) ∷ codes "}" ∷ []

pub location_text : (l : Location) → node_text (location_node l) ≡ joined (location_pieces l)
location_text l = object_text 0 K.Name (name_node l.name) ((K.TransientValues, some_list write_node l.values) ∷ [])

abbrev pub destination_pieces : Destination → List (List ℕ)
destination_pieces d =
    (codes "{\"location\":" ++ quoted d.location.name) ∷ if_some (codes ",\"probability\":") (option_map boxed_node d.weight)
    ∷ if_some (codes ",\"assignments\":") (some_list write_node d.writes) ∷ codes "}" ∷ []

pub destination_text : (d : Destination) → node_text (destination_node d) ≡ joined (destination_pieces d)
destination_text d = object_text 0 K.Location (name_node d.location) ((K.Probability, option_map boxed_node d.weight) ∷ (K.Assignments, some_list write_node d.writes) ∷ [])

abbrev pub edge_pieces : Edge → List (List ℕ)
edge_pieces e =
    (codes "{\"location\":" ++ quoted e.location.name) ∷ if_some (codes ",\"action\":") (option_map name_node e.action) ∷ if_some (codes ",\"guard\":") (option_map boxed_node e.guard)
    ∷ (codes ",\"destinations\":" ++ node_text (list_node destination_node 0 e.destinations)) ∷ codes "}" ∷ []

pub edge_text : (e : Edge) → node_text (edge_node e) ≡ joined (edge_pieces e)
edge_text e =
    object_text 0 K.Location (name_node e.location)
    ((K.Action, option_map name_node e.action) ∷ (K.Guard, option_map boxed_node e.guard) ∷ (K.Destinations, Some (list_node destination_node e.at e.destinations)) ∷ [])

abbrev automaton_members : Automaton → List Named → List (Key × Option Node)
automaton_members a initial =
    (K.Variables, some_list var_node a.variables) ∷ (K.Locations, Some (list_node location_node 0 a.locations))
    ∷ (K.InitialLocations, Some (list_node name_node 0 initial)) ∷ (K.Edges, Some (list_node edge_node 0 a.edges)) ∷ []

abbrev pub automaton_pieces : Automaton → List (List ℕ)
automaton_pieces a =
    (codes "{\"name\":" ++ quoted a.name.name) ∷ if_some (codes ",\"variables\":") (some_list var_node a.variables)
    ∷ (codes ",\"locations\":" ++ node_text (list_node location_node 0 a.locations))
    ∷ (codes ",\"initial-locations\":" ++ node_text (list_node name_node 0 (map (λ x. x) a.initial)))
    ∷ (codes ",\"edges\":" ++ node_text (list_node edge_node 0 a.edges)) ∷ codes "}" ∷ []

pub automaton_text : (a : Automaton) → node_text (automaton_node a) ≡ joined (automaton_pieces a)
automaton_text a =
    ap (λ ns. node_text (object_of 0 ((K.Name, Some (name_node a.name)) ∷ automaton_members a ns))) (sym (map-id a.initial))
    ∙ object_text 0 K.Name (name_node a.name) (automaton_members a (map (λ x. x) a.initial))

-- ---- the composition and the file

abbrev pub vector_pieces : Vector → List (List ℕ)
vector_pieces x = (codes "{\"synchronise\":" ++ node_text (list_node part_node 0 (map (λ y. y) x.parts))) ∷ if_some (codes ",\"result\":") (option_map name_node x.result) ∷ codes "}" ∷ []

pub vector_text : (x : Vector) → node_text (vector_node x) ≡ joined (vector_pieces x)
vector_text x =
    ap (λ ps. node_text (object_of 0 ((K.Synchronise, Some (list_node part_node x.at ps)) ∷ (K.Result, option_map name_node x.result) ∷ []))) (sym (map-id x.parts))
    ∙ object_text 0 K.Synchronise (list_node part_node x.at (map (λ y. y) x.parts)) ((K.Result, option_map name_node x.result) ∷ [])

abbrev pub element_pieces : Element → List (List ℕ)
element_pieces e = (codes "{\"automaton\":" ++ quoted e.name.name) ∷ if_some (codes ",\"input-enable\":") (some_list name_node (map (λ x. x) e.enable)) ∷ codes "}" ∷ []

pub element_text : (e : Element) → node_text (element_node e) ≡ joined (element_pieces e)
element_text e =
    ap (λ ns. node_text (object_of 0 ((K.Automaton, Some (name_node e.name)) ∷ (K.InputEnable, some_list name_node ns) ∷ []))) (sym (map-id e.enable))
    ∙ object_text 0 K.Automaton (name_node e.name) ((K.InputEnable, some_list name_node (map (λ x. x) e.enable)) ∷ [])

abbrev pub system_pieces : List Element → List Vector → List (List ℕ)
system_pieces elements vectors =
    (codes "{\"elements\":" ++ node_text (list_node element_node 0 elements)) ∷ (codes ",\"syncs\":" ++ node_text (list_node vector_node 0 vectors)) ∷ codes "}" ∷ []

pub system_text : (elements : List Element) (at : ℕ) (vectors : List Vector) → node_text (system_node elements at vectors) ≡ joined (system_pieces elements vectors)
system_text elements at vectors =
    object_text 0 K.Elements (list_node element_node at elements) ((K.Syncs, Some (list_node vector_node 0 vectors)) ∷ [])

-- the members before the declarations, and the key of the actions
abbrev pub head_text : List ℕ
head_text = codes "{\"jani-version\":1,\"name\":\"model\",\"type\":\"mdp\",\"features\":[\"derived-operators\",\"state-exit-rewards\"],\"actions\":"

abbrev declared_pieces : File → List (List ℕ)
declared_pieces f =
    (codes ",\"constants\":" ++ node_text (list_node const_node 0 f.constants)) ∷ (codes ",\"variables\":" ++ node_text (list_node var_node 0 f.variables))
    ∷ if_some (codes ",\"restrict-initial\":") (option_map boxed_node f.restrict) ∷ codes ",\"properties\":" ∷ node_text f.properties ∷ (codes ",\"automata\":" ++ node_text (list_node automaton_node 0 f.automata))
    ∷ codes ",\"system\":" ∷ node_text (system_node f.elements 0 f.vectors) ∷ codes "}" ∷ []

abbrev pub file_pieces : File → List (List ℕ)
file_pieces f = head_text ∷ list_text (keyed_text (codes "{\"name\":")) f.actions ∷ declared_pieces f

pub file_text : (f : File) → jani_text f ≡ joined (file_pieces f)
unfolding digits
file_text f =
    object_text 0 K.JaniVersion version_node ((K.Name, Some (word (codes "model"))) ∷ (K.Type, Some (word (codes "mdp"))) ∷ (K.Features, Some features_node) ∷ file_members f)
    ∙ ap (λ u. head_text ++ (u ++ joined (declared_pieces f))) (keyed_as K.Name 0 f.actions)
