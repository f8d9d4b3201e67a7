-- The canonical text of a JANI file doesn't depend on the places that its tree keeps.
use Rattle.std.specs.Prelude.{◌≡◌, ℕ, List, [], ◌∷◌, ◌++◌, map, Bool, true, false, Option, Some, None}
use Rattle.std.specs.Option.{option_map}
use Rattle.std.proofs.Common.{refl, sym, ap, ap₂, ◌∙◌}
use Rattle.basics.specs.Mapped.{some_turned, turned}
use Rattle.bridge_io.specs.declared.reason.Named.{Named}
use Rattle.decimal_json.specs.Text.{quoted, with_commas}
use Rattle.op_trees.specs.declared.tree.Ty.TheVariants as T
use Rattle.op_trees.specs.Names.{bare_name}
use Rattle.op_trees.specs.Tree.{bare, Truth, Number, Name, One, Two, Three}
use Rattle.jani_table.specs.declared.key.Key.{Key}
use Rattle.jani_table.specs.declared.key.Key.TheVariants as K
use Rattle.jani_table.specs.Node.{Node, null, truth, number, text, array, object, Nodes, no_nodes, more_nodes, Fields, no_fields, field, nodes_of}
use Rattle.jani_table.specs.Words.{ty_text}
use Rattle.jani_table.specs.Operators.{op_text}
use Rattle.jani_tree.specs.Syntax.{Expression, Const, VarKind, boolean, integer, number as real, real_bounded, one_sided, bounded, Var, Write, Location, Destination, Edge, Automaton, Vector, File, Element}
use Rattle.jani_tree.specs.Canonical.{with_entry, with_maybe, with_members, object_of, list_node, some_list, word, name_node, keyed_node, expr_node, boxed_node, bounded_word, kind_node, const_node, flag_node, var_node, write_node, location_node, destination_node, edge_node, automaton_node, part_node, vector_node, system_node, head_members, file_members, file_node, element_node}
use Rattle.jani_tree.specs.Places.{bare_node, bare_nodes, bare_fields, bare_const, bare_kind, bare_var, bare_write, bare_location, bare_destination, bare_edge, bare_automaton, bare_part, bare_vector, bare_file, bare_element}
use Rattle.jani_tree.specs.Text.{node_text, item_texts, member_texts, jani_text}

-- ---- the text of a value is that of the value with each offset 0
mutual
  text-bare : (v : Node) → node_text (bare_node v) ≡ node_text v
  text-bare (null at) = refl
  text-bare (truth at true) = refl
  text-bare (truth at false) = refl
  text-bare (number at d) = refl
  text-bare (text at s) = refl
  text-bare (array at vs) = ap (λ (ts : List (List ℕ)). 0x5b ∷ (with_commas ts ++ 0x5d ∷ [])) (items-bare vs)
  text-bare (object at ms close) = ap (λ (ts : List (List ℕ)). 0x7b ∷ (with_commas ts ++ 0x7d ∷ [])) (members-bare ms)

  items-bare : (vs : Nodes) → item_texts (bare_nodes vs) ≡ item_texts vs
  items-bare no_nodes = refl
  items-bare (more_nodes v vs) = ap₂ (λ t ts. t ∷ ts) (text-bare v) (items-bare vs)

  members-bare : (ms : Fields) → member_texts (bare_fields ms) ≡ member_texts ms
  members-bare no_fields = refl
  members-bare (field n v rest) = ap₂ (λ t ts. (quoted n.name ++ 0x3a ∷ t) ∷ ts) (text-bare v) (members-bare rest)

-- ---- objects and lists
entry-bare : (ms : Fields) (k : Key) (v : Node) → bare_fields (with_entry ms k v) ≡ with_entry (bare_fields ms) k (bare_node v)
entry-bare no_fields k v = refl
entry-bare (field n w rest) k v = ap (λ r. field (bare_name n) (bare_node w) r) (entry-bare rest k v)

maybe-bare : (ms : Fields) (k : Key) (o : Option Node) → bare_fields (with_maybe ms k o) ≡ with_maybe (bare_fields ms) k (option_map bare_node o)
maybe-bare ms k None = refl
maybe-bare ms k (Some v) = entry-bare ms k v

abbrev Entry : Type 0
Entry = Key × Option Node

abbrev bare_entry : Entry → Entry
bare_entry m = (m.0, option_map bare_node m.1)

entries-bare : (rest : List Entry) (ms : Fields) → bare_fields (with_members ms rest) ≡ with_members (bare_fields ms) (map bare_entry rest)
entries-bare [] ms = refl
entries-bare (m ∷ rest) ms = entries-bare rest (with_maybe ms m.0 m.1) ∙ ap (λ fs. with_members fs (map bare_entry rest)) (maybe-bare ms m.0 m.1)

object-bare : (at : ℕ) (ms : List Entry) → bare_node (object_of at ms) ≡ object_of 0 (map bare_entry ms)
object-bare at ms = ap (λ fs. object 0 fs 0) (entries-bare ms no_fields)

-- the members of one object are those of another, each offset 0
made : (at : ℕ) (ms ns : List Entry) → ns ≡ map bare_entry ms → object_of 0 ns ≡ bare_node (object_of at ms)
made at ms ns e = ap (object_of 0) e ∙ sym (object-bare at ms)

nodes-bare : (vs : List Node) → bare_nodes (nodes_of vs) ≡ nodes_of (map bare_node vs)
nodes-bare [] = refl
nodes-bare (v ∷ vs) = ap (λ ns. more_nodes (bare_node v) ns) (nodes-bare vs)

module _ {A : Type 0} (f : A → Node) (b : A → A) (h : (x : A) → f (b x) ≡ bare_node (f x)) where
  list-bare : (at : ℕ) (xs : List A) → list_node f 0 (map b xs) ≡ bare_node (list_node f at xs)
  list-bare at xs = ap (λ vs. array 0 (nodes_of vs)) (turned bare_node b f f h xs) ∙ ap (λ ns. array 0 ns) (sym (nodes-bare (map f xs)))

  some_list-bare : (xs : List A) → some_list f (map b xs) ≡ option_map bare_node (some_list f xs)
  some_list-bare [] = refl
  some_list-bare (x ∷ xs) = ap (λ v. Some v) (list-bare 0 (x ∷ xs))

  some-bare : (o : Option A) → option_map f (option_map b o) ≡ option_map bare_node (option_map f o)
  some-bare o = some_turned bare_node b f f h o

-- ---- expressions and types
expr-bare : (e : Expression) → expr_node (bare e) ≡ bare_node (expr_node e)
expr-bare (Truth at b) = refl
expr-bare (Number at d) = refl
expr-bare (Name at x) = refl
expr-bare (One at o a) =
    made at ((K.Op, Some (word (op_text o))) ∷ (K.Exp, Some (expr_node a)) ∷ []) _
    (ap (λ v. (K.Op, Some (word (op_text o))) ∷ (K.Exp, Some v) ∷ []) (expr-bare a))
expr-bare (Two at o a b) =
    made at ((K.Op, Some (word (op_text o))) ∷ (K.Left, Some (expr_node a)) ∷ (K.Right, Some (expr_node b)) ∷ []) _
    (ap₂ (λ v w. (K.Op, Some (word (op_text o))) ∷ (K.Left, Some v) ∷ (K.Right, Some w) ∷ []) (expr-bare a) (expr-bare b))
expr-bare (Three at o a b c) =
    made at ((K.Op, Some (word (op_text o))) ∷ (K.If, Some (expr_node a)) ∷ (K.Then, Some (expr_node b)) ∷ (K.Else, Some (expr_node c)) ∷ []) _
    (ap₂ (λ v w. (K.Op, Some (word (op_text o))) ∷ (K.If, Some v) ∷ (K.Then, Some w) ∷ (K.Else, Some (expr_node (bare c))) ∷ []) (expr-bare a) (expr-bare b)
    ∙ ap (λ u. (K.Op, Some (word (op_text o))) ∷ (K.If, Some (bare_node (expr_node a))) ∷ (K.Then, Some (bare_node (expr_node b))) ∷ (K.Else, Some u) ∷ []) (expr-bare c))

boxed-bare : (e : Expression) → boxed_node (bare e) ≡ bare_node (boxed_node e)
boxed-bare e = made 0 ((K.Exp, Some (expr_node e)) ∷ []) _ (ap (λ v. (K.Exp, Some v) ∷ []) (expr-bare e))

kind-bare : (at : ℕ) (k : VarKind) → kind_node 0 (bare_kind k) ≡ bare_node (kind_node at k)
kind-bare at boolean = refl
kind-bare at integer = refl
kind-bare at real = refl
kind-bare at real_bounded = refl
kind-bare at one_sided = refl
kind-bare at (bounded low high) =
    made at ((K.Kind, Some bounded_word) ∷ (K.Base, Some (word (ty_text T.Int))) ∷ (K.LowerBound, Some (expr_node low)) ∷ (K.UpperBound, Some (expr_node high)) ∷ []) _
    (ap₂ (λ v w. (K.Kind, Some bounded_word) ∷ (K.Base, Some (word (ty_text T.Int))) ∷ (K.LowerBound, Some v) ∷ (K.UpperBound, Some w) ∷ []) (expr-bare low) (expr-bare high))

note-bare : (o : Option (List ℕ)) → option_map word o ≡ option_map bare_node (option_map word o)
note-bare None = refl
note-bare (Some s) = refl

flag-bare : (b : Bool) → flag_node b ≡ option_map bare_node (flag_node b)
flag-bare true = refl
flag-bare false = refl

name-bare : (n : Named) → name_node (bare_name n) ≡ bare_node (name_node n)
name-bare n = refl

-- ---- declarations
const-bare : (c : Const) → const_node (bare_const c) ≡ bare_node (const_node c)
const-bare c =
    made 0 ((K.Name, Some (name_node c.name)) ∷ (K.Type, Some (word (ty_text c.ty))) ∷ (K.Value, option_map expr_node c.value) ∷ (K.Comment, option_map word c.note) ∷ []) _
    (ap₂ (λ v n. (K.Name, Some (name_node (bare_name c.name))) ∷ (K.Type, Some (word (ty_text c.ty))) ∷ (K.Value, v) ∷ (K.Comment, n) ∷ [])
    (some-bare expr_node bare expr-bare c.value) (note-bare c.note))

var-bare : (x : Var) → var_node (bare_var x) ≡ bare_node (var_node x)
var-bare x =
    made 0
    ((K.Name, Some (name_node x.name)) ∷ (K.Type, Some (kind_node x.kind_at x.kind)) ∷ (K.Transient, flag_node x.transient)
    ∷ (K.InitialValue, option_map expr_node x.start) ∷ (K.Comment, option_map word x.note) ∷ []) _
    (ap₂ (λ k f. (K.Name, Some (name_node (bare_name x.name))) ∷ (K.Type, Some k) ∷ (K.Transient, f)
    ∷ (K.InitialValue, option_map expr_node (option_map bare x.start)) ∷ (K.Comment, option_map word x.note) ∷ [])
    (kind-bare x.kind_at x.kind) (flag-bare x.transient)
    ∙ ap₂ (λ s n. (K.Name, Some (name_node (bare_name x.name))) ∷ (K.Type, Some (bare_node (kind_node x.kind_at x.kind))) ∷ (K.Transient, option_map bare_node (flag_node x.transient))
    ∷ (K.InitialValue, s) ∷ (K.Comment, n) ∷ [])
    (some-bare expr_node bare expr-bare x.start) (note-bare x.note))

-- ---- automata
write-bare : (w : Write) → write_node (bare_write w) ≡ bare_node (write_node w)
write-bare w =
    made 0 ((K.Ref, Some (name_node w.target)) ∷ (K.Value, Some (expr_node w.value)) ∷ []) _
    (ap (λ v. (K.Ref, Some (name_node (bare_name w.target))) ∷ (K.Value, Some v) ∷ []) (expr-bare w.value))

location-bare : (l : Location) → location_node (bare_location l) ≡ bare_node (location_node l)
location-bare l =
    made 0 ((K.Name, Some (name_node l.name)) ∷ (K.TransientValues, some_list write_node l.values) ∷ []) _
    (ap (λ v. (K.Name, Some (name_node (bare_name l.name))) ∷ (K.TransientValues, v) ∷ []) (some_list-bare write_node bare_write write-bare l.values))

destination-bare : (d : Destination) → destination_node (bare_destination d) ≡ bare_node (destination_node d)
destination-bare d =
    made 0 ((K.Location, Some (name_node d.location)) ∷ (K.Probability, option_map boxed_node d.weight) ∷ (K.Assignments, some_list write_node d.writes) ∷ []) _
    (ap₂ (λ p a. (K.Location, Some (name_node (bare_name d.location))) ∷ (K.Probability, p) ∷ (K.Assignments, a) ∷ [])
    (some-bare boxed_node bare boxed-bare d.weight) (some_list-bare write_node bare_write write-bare d.writes))

edge-bare : (e : Edge) → edge_node (bare_edge e) ≡ bare_node (edge_node e)
edge-bare e =
    made 0
    ((K.Location, Some (name_node e.location)) ∷ (K.Action, option_map name_node e.action) ∷ (K.Guard, option_map boxed_node e.guard)
    ∷ (K.Destinations, Some (list_node destination_node e.at e.destinations)) ∷ []) _
    (ap₂ (λ a g. (K.Location, Some (name_node (bare_name e.location))) ∷ (K.Action, a) ∷ (K.Guard, g)
    ∷ (K.Destinations, Some (list_node destination_node 0 (map bare_destination e.destinations))) ∷ [])
    (some-bare name_node bare_name name-bare e.action) (some-bare boxed_node bare boxed-bare e.guard)
    ∙ ap (λ d. (K.Location, Some (name_node (bare_name e.location))) ∷ (K.Action, option_map bare_node (option_map name_node e.action))
    ∷ (K.Guard, option_map bare_node (option_map boxed_node e.guard)) ∷ (K.Destinations, Some d) ∷ [])
    (list-bare destination_node bare_destination destination-bare e.at e.destinations))

automaton-bare : (a : Automaton) → automaton_node (bare_automaton a) ≡ bare_node (automaton_node a)
automaton-bare a =
    made 0
    ((K.Name, Some (name_node a.name)) ∷ (K.Variables, some_list var_node a.variables) ∷ (K.Locations, Some (list_node location_node 0 a.locations))
    ∷ (K.InitialLocations, Some (list_node name_node 0 a.initial)) ∷ (K.Edges, Some (list_node edge_node 0 a.edges)) ∷ []) _
    (ap₂ (λ v l. (K.Name, Some (name_node (bare_name a.name))) ∷ (K.Variables, v) ∷ (K.Locations, Some l)
    ∷ (K.InitialLocations, Some (list_node name_node 0 (map bare_name a.initial))) ∷ (K.Edges, Some (list_node edge_node 0 (map bare_edge a.edges))) ∷ [])
    (some_list-bare var_node bare_var var-bare a.variables) (list-bare location_node bare_location location-bare 0 a.locations)
    ∙ ap₂ (λ i e. (K.Name, Some (name_node (bare_name a.name))) ∷ (K.Variables, option_map bare_node (some_list var_node a.variables))
    ∷ (K.Locations, Some (bare_node (list_node location_node 0 a.locations))) ∷ (K.InitialLocations, Some i) ∷ (K.Edges, Some e) ∷ [])
    (list-bare name_node bare_name name-bare 0 a.initial) (list-bare edge_node bare_edge edge-bare 0 a.edges))

-- ---- the composition and the file
part-bare : (p : Option Named) → part_node (bare_part p) ≡ bare_node (part_node p)
part-bare None = refl
part-bare (Some n) = refl

vector-bare : (x : Vector) → vector_node (bare_vector x) ≡ bare_node (vector_node x)
vector-bare x =
    made 0 ((K.Synchronise, Some (list_node part_node x.at x.parts)) ∷ (K.Result, option_map name_node x.result) ∷ []) _
    (ap₂ (λ p r. (K.Synchronise, Some p) ∷ (K.Result, r) ∷ []) (list-bare part_node bare_part part-bare x.at x.parts) (some-bare name_node bare_name name-bare x.result))

keyed-bare : (k : Key) (n : Named) → keyed_node k (bare_name n) ≡ bare_node (keyed_node k n)
keyed-bare k n = made 0 ((k, Some (name_node n)) ∷ []) _ refl

element-bare : (e : Element) → element_node (bare_element e) ≡ bare_node (element_node e)
element-bare e =
    made 0 ((K.Automaton, Some (name_node e.name)) ∷ (K.InputEnable, some_list name_node e.enable) ∷ []) _
    (ap (λ l. (K.Automaton, Some (name_node (bare_name e.name))) ∷ (K.InputEnable, l) ∷ []) (some_list-bare name_node bare_name name-bare e.enable))

system-bare : (f : File) → system_node (map bare_element f.elements) 0 (map bare_vector f.vectors) ≡ bare_node (system_node f.elements f.elements_at f.vectors)
system-bare f =
    made 0 ((K.Elements, Some (list_node element_node f.elements_at f.elements)) ∷ (K.Syncs, Some (list_node vector_node 0 f.vectors)) ∷ []) _
    (ap₂ (λ e s. (K.Elements, Some e) ∷ (K.Syncs, Some s) ∷ []) (list-bare element_node bare_element element-bare f.elements_at f.elements)
    (list-bare vector_node bare_vector vector-bare 0 f.vectors))

file_members-bare : (f : File) → file_members (bare_file f) ≡ map bare_entry (file_members f)
file_members-bare f =
    ap₂ (λ a c. (K.Actions, Some a) ∷ (K.Constants, Some c) ∷ (K.Variables, Some (list_node var_node 0 (map bare_var f.variables)))
    ∷ (K.RestrictInitial, option_map boxed_node (option_map bare f.restrict)) ∷ (K.Properties, Some (bare_node f.properties))
    ∷ (K.Automata, Some (list_node automaton_node 0 (map bare_automaton f.automata))) ∷ (K.System, Some (system_node (map bare_element f.elements) 0 (map bare_vector f.vectors))) ∷ [])
    (list-bare (keyed_node K.Name) bare_name (keyed-bare K.Name) 0 f.actions) (list-bare const_node bare_const const-bare 0 f.constants)
    ∙ ap₂ (λ v a. (K.Actions, Some (bare_node (list_node (keyed_node K.Name) 0 f.actions))) ∷ (K.Constants, Some (bare_node (list_node const_node 0 f.constants))) ∷ (K.Variables, Some v)
    ∷ (K.RestrictInitial, option_map boxed_node (option_map bare f.restrict)) ∷ (K.Properties, Some (bare_node f.properties)) ∷ (K.Automata, Some a) ∷ (K.System, Some (system_node (map bare_element f.elements) 0 (map bare_vector f.vectors))) ∷ [])
    (list-bare var_node bare_var var-bare 0 f.variables) (list-bare automaton_node bare_automaton automaton-bare 0 f.automata)
    ∙ ap₂ (λ r s. (K.Actions, Some (bare_node (list_node (keyed_node K.Name) 0 f.actions))) ∷ (K.Constants, Some (bare_node (list_node const_node 0 f.constants)))
    ∷ (K.Variables, Some (bare_node (list_node var_node 0 f.variables))) ∷ (K.RestrictInitial, r) ∷ (K.Properties, Some (bare_node f.properties))
    ∷ (K.Automata, Some (bare_node (list_node automaton_node 0 f.automata))) ∷ (K.System, Some s) ∷ [])
    (some-bare boxed_node bare boxed-bare f.restrict) (system-bare f)

file-bare : (f : File) → file_node (bare_file f) ≡ bare_node (file_node f)
file-bare f =
    ap (λ ms. object 0 (with_members (with_members no_fields head_members) ms) 0) (file_members-bare f)
    ∙ ap (λ fs. object 0 fs 0) (sym (entries-bare (file_members f) (with_members no_fields head_members)))

-- ---- files that are the same but for places have one text
pub one_jani_text : (f g : File) → bare_file f ≡ bare_file g → jani_text f ≡ jani_text g
one_jani_text f g e =
    sym (text-bare (file_node f)) ∙ ap node_text (sym (file-bare f)) ∙ ap (λ t. node_text (file_node t)) e ∙ ap node_text (file-bare g) ∙ text-bare (file_node g)
