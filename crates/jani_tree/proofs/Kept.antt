-- What is written can be kept: its strings are UTF-8, and its numbers are within the bounds of their type where they are in normal
-- form.
use Rattle.std.proofs.Common.{◌≡◌, ℕ, ◌+◌, ◌<◌, ◌≤◌, Bool, true, false, refl, sym, subst, ◌∙◌, List, [], ◌∷◌, Option, Some, None, length, drop, get_or, map, map-id}
use Rattle.std.specs.Prelude.{codes, Result, Ok, Err, OnOk, pos}
use Rattle.std.specs.Char.{encode_utf8}
use Rattle.std.specs.Str.{is_utf8}
use Rattle.std.proofs.lemmas.Str.{is_utf8-from_IsUtf8}
use Rattle.std.specs.Option.{option_map}
use Rattle.basics.specs.Booleans.{first_true, second_true}
use Rattle.basics.specs.Lists.{drop_item}
use Rattle.bridge_io.specs.declared.reason.Named.{Named}
use Rattle.frac_core.specs.declared.decimal.Decimal.{Decimal}
use Rattle.frac_core.specs.Decimal.{is_normal}
use Rattle.decimal_json.specs.declared.tree.Json.{Json}
use Rattle.decimal_json.specs.declared.tree.Member.{Member}
use Rattle.decimal_json.specs.declared.tree.Json.TheOpen as layer
use Rattle.decimal_json.specs.declared.tree.Json.TheOpen.{Json-F, Member-F}
use denote.Hole.Holds.{Such}
use Rattle.decimal_json.specs.declared.tree.Json.TheBlock.{the_family, member-Json, member-Member}
use Rattle.decimal_json.specs.declared.tree.Json.TheFolds.{claims, map-Json, map-Member, ind-Json, fold-roll-Json, fold-roll-Member}
use Rattle.decimal_json.specs.declared.tree.Json.TheViews.{roll-Json, roll-Member}
use Rattle.decimal_json.specs.Proper.{all_true, is_kept, proper_step, proper_member, is_proper, member_proper, all_normal}
use Rattle.jani_table.specs.declared.key.Key.{Key}
use Rattle.jani_table.specs.declared.key.Key.TheVariants as K
use Rattle.jani_table.specs.declared.operator.JaniOp.{JaniOp}
use Rattle.jani_table.specs.Node.{Node, truth, number, text, object, Fields, no_fields, field, nodes_of, fields_of, node, named_node, node_step, member_step}
use Rattle.jani_table.specs.NodeLaws.{drop_all}
use Rattle.jani_table.specs.Operators.{op_text}
use Rattle.jani_table.specs.Table.{spelled}
use Rattle.op_trees.specs.Tree.{One, Two, Three}
use Rattle.jani_tree.specs.Syntax.{Expression, Const, Var, Write, Location, Destination, Edge, Automaton, Element, Vector, File, VarKind, boolean, integer, number as real, real_bounded, one_sided, bounded}
use Rattle.op_trees.specs.declared.tree.Ty.{Ty}
use Rattle.op_trees.specs.declared.tree.Ty.TheVariants as T
use Rattle.jani_table.specs.Words.{ty_text, feature_text}
use Rattle.jani_table.specs.declared.words.Feature.TheVariants.{DerivedOperators, StateExitRewards}
use Rattle.std.specs.List.{AllByRecursion as OfAll}
use Rattle.basics.specs.Options.{IfAny as OfSome}
use Rattle.jani_tree.specs.Canonical.{with_entry, with_maybe, with_members, object_of, list_node, some_list, word, name_node, keyed_node, expr_node, boxed_node, bounded_word, kind_node, flag_node, head_members, part_node, const_node, var_node, write_node, location_node, destination_node, edge_node, automaton_node, element_node, vector_node, system_node, file_members, file_node}
use Rattle.jani_tree.specs.Form.{NormalNodes, NormalFields}
use Rattle.jani_tree.specs.Text.{ProperNode, ProperNodes, ProperFields, KeptNode}
use Rattle.jani_tree.proofs.Normal.{normal_again}

-- ---- what was written
pub written : {A E P : Type 0} (r : Result A E) → P → OnOk r P
written (Ok x) p = p
written (Err x) p = tt

-- ---- leaves
pub kept_truth : (at : ℕ) (b : Bool) → KeptNode (truth at b)
kept_truth at b = record { proper = λ n. tt }

pub kept_number : (at : ℕ) (d : Decimal) → (is_normal d ≡ true → is_kept d ≡ true) → KeptNode (number at d)
kept_number at d h = record { proper = h }

pub kept_text : (at : ℕ) (s : List ℕ) → is_utf8 s ≡ true → KeptNode (text at s)
kept_text at s h = record { proper = λ n. h }

-- ---- objects
key_utf8 : (k : Key) → is_utf8 (spelled k) ≡ true
unfolding encode_utf8
key_utf8 K.JaniVersion = is_utf8-from_IsUtf8 (spelled K.JaniVersion) (spelled K.JaniVersion, (refl, refl))
key_utf8 K.Name = is_utf8-from_IsUtf8 (spelled K.Name) (spelled K.Name, (refl, refl))
key_utf8 K.Type = is_utf8-from_IsUtf8 (spelled K.Type) (spelled K.Type, (refl, refl))
key_utf8 K.Features = is_utf8-from_IsUtf8 (spelled K.Features) (spelled K.Features, (refl, refl))
key_utf8 K.Actions = is_utf8-from_IsUtf8 (spelled K.Actions) (spelled K.Actions, (refl, refl))
key_utf8 K.Constants = is_utf8-from_IsUtf8 (spelled K.Constants) (spelled K.Constants, (refl, refl))
key_utf8 K.Variables = is_utf8-from_IsUtf8 (spelled K.Variables) (spelled K.Variables, (refl, refl))
key_utf8 K.RestrictInitial = is_utf8-from_IsUtf8 (spelled K.RestrictInitial) (spelled K.RestrictInitial, (refl, refl))
key_utf8 K.Properties = is_utf8-from_IsUtf8 (spelled K.Properties) (spelled K.Properties, (refl, refl))
key_utf8 K.Automata = is_utf8-from_IsUtf8 (spelled K.Automata) (spelled K.Automata, (refl, refl))
key_utf8 K.System = is_utf8-from_IsUtf8 (spelled K.System) (spelled K.System, (refl, refl))
key_utf8 K.Functions = is_utf8-from_IsUtf8 (spelled K.Functions) (spelled K.Functions, (refl, refl))
key_utf8 K.Metadata = is_utf8-from_IsUtf8 (spelled K.Metadata) (spelled K.Metadata, (refl, refl))
key_utf8 K.Value = is_utf8-from_IsUtf8 (spelled K.Value) (spelled K.Value, (refl, refl))
key_utf8 K.Kind = is_utf8-from_IsUtf8 (spelled K.Kind) (spelled K.Kind, (refl, refl))
key_utf8 K.Base = is_utf8-from_IsUtf8 (spelled K.Base) (spelled K.Base, (refl, refl))
key_utf8 K.LowerBound = is_utf8-from_IsUtf8 (spelled K.LowerBound) (spelled K.LowerBound, (refl, refl))
key_utf8 K.UpperBound = is_utf8-from_IsUtf8 (spelled K.UpperBound) (spelled K.UpperBound, (refl, refl))
key_utf8 K.Transient = is_utf8-from_IsUtf8 (spelled K.Transient) (spelled K.Transient, (refl, refl))
key_utf8 K.InitialValue = is_utf8-from_IsUtf8 (spelled K.InitialValue) (spelled K.InitialValue, (refl, refl))
key_utf8 K.Locations = is_utf8-from_IsUtf8 (spelled K.Locations) (spelled K.Locations, (refl, refl))
key_utf8 K.InitialLocations = is_utf8-from_IsUtf8 (spelled K.InitialLocations) (spelled K.InitialLocations, (refl, refl))
key_utf8 K.Edges = is_utf8-from_IsUtf8 (spelled K.Edges) (spelled K.Edges, (refl, refl))
key_utf8 K.TransientValues = is_utf8-from_IsUtf8 (spelled K.TransientValues) (spelled K.TransientValues, (refl, refl))
key_utf8 K.TimeProgress = is_utf8-from_IsUtf8 (spelled K.TimeProgress) (spelled K.TimeProgress, (refl, refl))
key_utf8 K.Ref = is_utf8-from_IsUtf8 (spelled K.Ref) (spelled K.Ref, (refl, refl))
key_utf8 K.Location = is_utf8-from_IsUtf8 (spelled K.Location) (spelled K.Location, (refl, refl))
key_utf8 K.Action = is_utf8-from_IsUtf8 (spelled K.Action) (spelled K.Action, (refl, refl))
key_utf8 K.Guard = is_utf8-from_IsUtf8 (spelled K.Guard) (spelled K.Guard, (refl, refl))
key_utf8 K.Destinations = is_utf8-from_IsUtf8 (spelled K.Destinations) (spelled K.Destinations, (refl, refl))
key_utf8 K.Rate = is_utf8-from_IsUtf8 (spelled K.Rate) (spelled K.Rate, (refl, refl))
key_utf8 K.Probability = is_utf8-from_IsUtf8 (spelled K.Probability) (spelled K.Probability, (refl, refl))
key_utf8 K.Assignments = is_utf8-from_IsUtf8 (spelled K.Assignments) (spelled K.Assignments, (refl, refl))
key_utf8 K.Index = is_utf8-from_IsUtf8 (spelled K.Index) (spelled K.Index, (refl, refl))
key_utf8 K.Elements = is_utf8-from_IsUtf8 (spelled K.Elements) (spelled K.Elements, (refl, refl))
key_utf8 K.Syncs = is_utf8-from_IsUtf8 (spelled K.Syncs) (spelled K.Syncs, (refl, refl))
key_utf8 K.Automaton = is_utf8-from_IsUtf8 (spelled K.Automaton) (spelled K.Automaton, (refl, refl))
key_utf8 K.InputEnable = is_utf8-from_IsUtf8 (spelled K.InputEnable) (spelled K.InputEnable, (refl, refl))
key_utf8 K.Synchronise = is_utf8-from_IsUtf8 (spelled K.Synchronise) (spelled K.Synchronise, (refl, refl))
key_utf8 K.Result = is_utf8-from_IsUtf8 (spelled K.Result) (spelled K.Result, (refl, refl))
key_utf8 K.Exp = is_utf8-from_IsUtf8 (spelled K.Exp) (spelled K.Exp, (refl, refl))
key_utf8 K.Op = is_utf8-from_IsUtf8 (spelled K.Op) (spelled K.Op, (refl, refl))
key_utf8 K.Constant = is_utf8-from_IsUtf8 (spelled K.Constant) (spelled K.Constant, (refl, refl))
key_utf8 K.Left = is_utf8-from_IsUtf8 (spelled K.Left) (spelled K.Left, (refl, refl))
key_utf8 K.Right = is_utf8-from_IsUtf8 (spelled K.Right) (spelled K.Right, (refl, refl))
key_utf8 K.If = is_utf8-from_IsUtf8 (spelled K.If) (spelled K.If, (refl, refl))
key_utf8 K.Then = is_utf8-from_IsUtf8 (spelled K.Then) (spelled K.Then, (refl, refl))
key_utf8 K.Else = is_utf8-from_IsUtf8 (spelled K.Else) (spelled K.Else, (refl, refl))
key_utf8 K.Comment = is_utf8-from_IsUtf8 (spelled K.Comment) (spelled K.Comment, (refl, refl))

-- each member can be kept
abbrev KeptFields : Fields → Type 0
KeptFields no_fields = Unit {0}
KeptFields (field n v rest) = (is_utf8 n.name ≡ true) × KeptNode v × KeptFields rest

proper_fields : (fs : Fields) → KeptFields fs → NormalFields fs → ProperFields fs
proper_fields no_fields h n = tt
proper_fields (field k v rest) h n = (h.0, h.1.proper n.0, proper_fields rest h.2 n.1)

kept_entry : (fs : Fields) (k : Key) (v : Node) → KeptFields fs → KeptNode v → KeptFields (with_entry fs k v)
kept_entry no_fields k v h g = (key_utf8 k, g, tt)
kept_entry (field n w rest) k v h g = (h.0, h.1, kept_entry rest k v h.2 g)

kept_maybe : (fs : Fields) (k : Key) (v : Option Node) → KeptFields fs → OfSome KeptNode v → KeptFields (with_maybe fs k v)
kept_maybe fs k None h g = h
kept_maybe fs k (Some v) h g = kept_entry fs k v h g

kept_members : (fs : Fields) (ms : List (Key × Option Node)) → KeptFields fs → OfAll (λ m. OfSome KeptNode m.1) ms → KeptFields (with_members fs ms)
kept_members fs [] h g = h
kept_members fs (m ∷ ms) h g = kept_members (with_maybe fs m.0 m.1) ms (kept_maybe fs m.0 m.1 h g.0) g.1

-- what each member holds can be kept
abbrev pub KeptMembers : List (Key × Option Node) → Type 0
KeptMembers ms = OfAll (λ m. OfSome KeptNode m.1) ms

pub kept_object : (at : ℕ) (ms : List (Key × Option Node)) → KeptMembers ms → KeptNode (object_of at ms)
kept_object at ms h = record { proper = proper_fields (with_members no_fields ms) (kept_members no_fields ms tt h) }

-- two groups of members, one behind the other
pub kept_file : (ms ns : List (Key × Option Node)) → KeptMembers ms → KeptMembers ns → KeptNode (object 0 (with_members (with_members no_fields ms) ns) 0)
kept_file ms ns h g = record { proper = proper_fields (with_members (with_members no_fields ms) ns) (kept_members (with_members no_fields ms) ns (kept_members no_fields ms tt h) g) }

-- ---- expressions
pub kept_one : (at : ℕ) (o : JaniOp) (a : Expression) → is_utf8 (op_text o) ≡ true → KeptNode (expr_node a) → KeptNode (expr_node (One at o a))
kept_one at o a h f = kept_object at ((K.Op, Some (word (op_text o))) ∷ (K.Exp, Some (expr_node a)) ∷ []) (kept_text 0 (op_text o) h, (f, tt))

pub kept_two : (at : ℕ) (o : JaniOp) (a b : Expression) → is_utf8 (op_text o) ≡ true → KeptNode (expr_node a) → KeptNode (expr_node b) → KeptNode (expr_node (Two at o a b))
kept_two at o a b h f g = kept_object at ((K.Op, Some (word (op_text o))) ∷ (K.Left, Some (expr_node a)) ∷ (K.Right, Some (expr_node b)) ∷ []) (kept_text 0 (op_text o) h, (f, (g, tt)))

pub kept_three : (at : ℕ) (o : JaniOp) (a b c : Expression) → is_utf8 (op_text o) ≡ true → KeptNode (expr_node a) → KeptNode (expr_node b) → KeptNode (expr_node c) → KeptNode (expr_node (Three at o a b c))
kept_three at o a b c h f g k =
    kept_object at ((K.Op, Some (word (op_text o))) ∷ (K.If, Some (expr_node a)) ∷ (K.Then, Some (expr_node b)) ∷ (K.Else, Some (expr_node c)) ∷ []) (kept_text 0 (op_text o) h, (f, (g, (k, tt))))

pub kept_boxed : (e : Expression) → KeptNode (expr_node e) → KeptNode (boxed_node e)
kept_boxed e h = kept_object 0 ((K.Exp, Some (expr_node e)) ∷ []) (h, tt)

-- ---- lists
kept_items : {A : Type 0} (f : A → Node) (xs : List A) → OfAll (λ x. KeptNode (f x)) xs → NormalNodes (nodes_of (map f xs)) → ProperNodes (nodes_of (map f xs))
kept_items f [] h n = tt
kept_items f (x ∷ xs) h n = (h.0.proper n.0, kept_items f xs h.1 n.1)

pub kept_list : {A : Type 0} (f : A → Node) (at : ℕ) (xs : List A) → OfAll (λ x. KeptNode (f x)) xs → KeptNode (list_node f at xs)
kept_list f at xs h = record { proper = kept_items f xs h }

-- of what was seen
all_seen : {A B : Type 0} (f : B → Node) (g : A → B) (xs : List A) → OfAll (λ x. KeptNode (f (g x))) xs → OfAll (λ x. KeptNode (f x)) (map g xs)
all_seen f g [] h = tt
all_seen f g (x ∷ xs) h = (h.0, all_seen f g xs h.1)

pub kept_seen : {A B : Type 0} (f : B → Node) (g : A → B) (at : ℕ) (xs : List A) → OfAll (λ x. KeptNode (f (g x))) xs → KeptNode (list_node f at (map g xs))
kept_seen f g at xs h = kept_list f at (map g xs) (all_seen f g xs h)

-- where it stands
pub kept_at : {A : Type 0} (f : A → Node) (at : ℕ) (xs : List A) → KeptNode (list_node f 0 xs) → KeptNode (list_node f at xs)
kept_at f at xs h = record { proper = h.proper }

pub kept_next : {A Q : Type 0} (P : A → Type 0) (xs : List A) (x : A) (i : ℕ) → i < length xs → x ≡ get_or xs i x → P x → (OfAll P (drop i xs) → Q) → OfAll P (drop (i + 1) xs) → Q
kept_next P xs x i h e p inv rest = inv (subst (OfAll P) (sym (drop_item xs i x h e)) (p, rest))

pub kept_done : {A Q : Type 0} (P : A → Type 0) (xs : List A) (i : ℕ) → length xs ≤ i → (OfAll P (drop i xs) → Q) → Q
kept_done P xs i h inv = inv (subst (OfAll P) (sym (drop_all xs i h)) tt)

pub kept_flag : (b : Bool) → OfSome KeptNode (flag_node b)
kept_flag true = kept_truth 0 true
kept_flag false = tt

-- objects that have each a name
kept_keyed : (k : Key) (n : Named) → KeptNode (name_node n) → KeptNode (keyed_node k n)
kept_keyed k n h = kept_object 0 ((k, Some (name_node n)) ∷ []) (h, tt)

keyed_all : (k : Key) (ns : List Named) → OfAll (λ n. KeptNode (name_node n)) ns → OfAll (λ n. KeptNode (keyed_node k n)) ns
keyed_all k [] h = tt
keyed_all k (n ∷ ns) h = (kept_keyed k n h.0, keyed_all k ns h.1)

pub kept_keyed_list : (k : Key) (at : ℕ) (ns : List Named) → OfAll (λ n. KeptNode (name_node n)) ns → KeptNode (list_node (keyed_node k) at ns)
kept_keyed_list k at ns h = kept_list (keyed_node k) at ns (keyed_all k ns h)

-- ---- types
ty_utf8 : (t : Ty) → is_utf8 (ty_text t) ≡ true
unfolding encode_utf8
ty_utf8 T.Bool = is_utf8-from_IsUtf8 (ty_text T.Bool) (ty_text T.Bool, (refl, refl))
ty_utf8 T.Int = is_utf8-from_IsUtf8 (ty_text T.Int) (ty_text T.Int, (refl, refl))
ty_utf8 T.Real = is_utf8-from_IsUtf8 (ty_text T.Real) (ty_text T.Real, (refl, refl))

pub kept_type : (at : ℕ) (t : Ty) → KeptNode (text at (ty_text t))
kept_type at t = kept_text at (ty_text t) (ty_utf8 t)

-- the word in front of bounds
kept_bounded_word : KeptNode bounded_word
unfolding encode_utf8
kept_bounded_word = kept_text 0 (codes "bounded") (is_utf8-from_IsUtf8 (codes "bounded") (codes "bounded", (refl, refl)))

pub kept_bare_bounds : (at : ℕ) (t : Ty) → KeptNode (object_of at ((K.Kind, Some bounded_word) ∷ (K.Base, Some (word (ty_text t))) ∷ []))
kept_bare_bounds at t = kept_object at ((K.Kind, Some bounded_word) ∷ (K.Base, Some (word (ty_text t))) ∷ []) (kept_bounded_word, (kept_type 0 t, tt))

pub kept_bounds : (at : ℕ) (low high : Expression) → KeptNode (expr_node low) → KeptNode (expr_node high) → KeptNode (kind_node at (bounded low high))
kept_bounds at low high h g =
    kept_object at ((K.Kind, Some bounded_word) ∷ (K.Base, Some (word (ty_text T.Int))) ∷ (K.LowerBound, Some (expr_node low)) ∷ (K.UpperBound, Some (expr_node high)) ∷ [])
    (kept_bounded_word, (kept_type 0 T.Int, (h, (g, tt))))

pub kept_kind : (at at' : ℕ) (k : VarKind) → KeptNode (kind_node at k) → KeptNode (kind_node at' k)
kept_kind at at' boolean h = kept_type at' T.Bool
kept_kind at at' integer h = kept_type at' T.Int
kept_kind at at' real h = kept_type at' T.Real
kept_kind at at' real_bounded h = kept_bare_bounds at' T.Real
kept_kind at at' one_sided h = kept_bare_bounds at' T.Int
kept_kind at at' (bounded low high) h = record { proper = h.proper }

-- ---- the head of a file
pub kept_head : KeptMembers head_members
unfolding encode_utf8
kept_head = (
  kept_number 0 (record { real = false; negative = false; digits = 1; exponent = pos 0 }) (λ n. refl),
  (
    kept_text 0 (codes "model") (is_utf8-from_IsUtf8 (codes "model") (codes "model", (refl, refl))),
    (
      kept_text 0 (codes "mdp") (is_utf8-from_IsUtf8 (codes "mdp") (codes "mdp", (refl, refl))),
      (kept_list word 0 (feature_text DerivedOperators ∷ feature_text StateExitRewards ∷ []) (kept_text 0 (feature_text DerivedOperators) (is_utf8-from_IsUtf8 (feature_text DerivedOperators) (feature_text DerivedOperators, (refl, refl))), (kept_text 0 (feature_text StateExitRewards) (is_utf8-from_IsUtf8 (feature_text StateExitRewards) (feature_text StateExitRewards, (refl, refl))), tt)), tt),
    ),
  ),
)

-- ---- values
abbrev IsProper : Json → Type 0
IsProper x = is_proper x ≡ true → ProperNode (node x)

abbrev IsMemberProper : Member → Type 0
IsMemberProper m = member_proper m ≡ true → (is_utf8 (named_node m).0.name ≡ true) × ProperNode (named_node m).1

abbrev J : Type 0
J = Such the_family (claims IsProper IsMemberProper) member-Json

abbrev M : Type 0
M = Such the_family (claims IsProper IsMemberProper) member-Member

each_proper : (ys : List J) → all_true (map is_proper (map (λ (e : J). e.0) ys)) ≡ true → ProperNodes (nodes_of (map node (map (λ (e : J). e.0) ys)))
each_proper [] s = tt
each_proper (y ∷ ys) s = (y.1 (first_true _ _ s), each_proper ys (second_true _ _ s))

each_member : (ms : List M) → all_true (map member_proper (map (λ (e : M). e.0) ms)) ≡ true → ProperFields (fields_of (map named_node (map (λ (e : M). e.0) ms)))
each_member [] s = tt
each_member (m ∷ ms) s = let h = m.1 (first_true _ _ s) in (h.0, h.1, each_member ms (second_true _ _ s))

proper_as : (x : Json) (n : Node) (c : Bool) → node x ≡ n → is_proper x ≡ c → (c ≡ true → ProperNode n) → IsProper x
proper_as x n c e g h a = subst ProperNode (sym e) (h (sym g ∙ a))

layers : (y : Json-F J M) → IsProper (roll-Json (map-Json J M Json Member (λ e. e.0) (λ e. e.0) y))
layers (layer.Null at) = proper_as _ _ _ (fold-roll-Json _ _ node_step member_step (layer.Null at)) (fold-roll-Json _ _ proper_step proper_member (layer.Null at)) (λ k. tt)
layers (layer.Truth at b) = proper_as _ _ _ (fold-roll-Json _ _ node_step member_step (layer.Truth at b)) (fold-roll-Json _ _ proper_step proper_member (layer.Truth at b)) (λ k. tt)
layers (layer.Number at d) = proper_as _ _ _ (fold-roll-Json _ _ node_step member_step (layer.Number at d)) (fold-roll-Json _ _ proper_step proper_member (layer.Number at d)) (λ k. k)
layers (layer.Str at t) = proper_as _ _ _ (fold-roll-Json _ _ node_step member_step (layer.Str at t)) (fold-roll-Json _ _ proper_step proper_member (layer.Str at t)) (λ k. k)
layers (layer.Array at ys) = let vs : List Json = map (λ (e : J). e.0) ys in
    proper_as _ _ _ (fold-roll-Json _ _ node_step member_step (layer.Array at vs)) (fold-roll-Json _ _ proper_step proper_member (layer.Array at vs)) (each_proper ys)
layers (layer.Object at ms c) = let vs : List Member = map (λ (e : M). e.0) ms in
    proper_as _ _ _ (fold-roll-Json _ _ node_step member_step (layer.Object at vs c)) (fold-roll-Json _ _ proper_step proper_member (layer.Object at vs c)) (each_member ms)

member_layer : (y : Member-F J M) → IsMemberProper (roll-Member (map-Member J M Json Member (λ e. e.0) (λ e. e.0) y))
member_layer y =
    let z = map-Member J M Json Member (λ e. e.0) (λ e. e.0) y in
    let seen = fold-roll-Member _ _ node_step member_step z in
    let kept = fold-roll-Member _ _ proper_step proper_member z in
    λ k. let g = sym kept ∙ k in
    subst (λ (p : Named × Node). (is_utf8 p.0.name ≡ true) × ProperNode p.1) (sym seen) (first_true _ _ g, y.value.1 (second_true _ _ g))

proper_node : (x : Json) → IsProper x
proper_node x = ind-Json IsProper IsMemberProper
    (λ x y e. (let F : Json-F Json Member → Type 0 = λ u. IsProper (roll-Json u) in subst F e (layers y)))
    (λ x y e. (let F : Member-F Json Member → Type 0 = λ u. IsMemberProper (roll-Member u) in subst F e (member_layer y))) x

pub kept_value : (x : Json) → (all_normal x ≡ true → is_proper x ≡ true) → KeptNode (node x)
kept_value x h = record { proper = λ n. proper_node x (h (normal_again x n)) }

-- ---- the objects of a file
pub kept_const : (c : Const) → is_utf8 c.name.name ≡ true → OfSome KeptNode (option_map expr_node c.value) → OfSome KeptNode (option_map word c.note) → KeptNode (const_node c)
kept_const c n v w =
    kept_object 0 ((K.Name, Some (name_node c.name)) ∷ (K.Type, Some (word (ty_text c.ty))) ∷ (K.Value, option_map expr_node c.value) ∷ (K.Comment, option_map word c.note) ∷ [])
    (kept_text c.name.at c.name.name n, (kept_type 0 c.ty, (v, (w, tt))))

pub kept_var : (x : Var) → is_utf8 x.name.name ≡ true → KeptNode (kind_node 0 x.kind) → OfSome KeptNode (option_map expr_node x.start) → OfSome KeptNode (option_map word x.note) → KeptNode (var_node x)
kept_var x n k v w =
    kept_object 0
    ((K.Name, Some (name_node x.name)) ∷ (K.Type, Some (kind_node x.kind_at x.kind)) ∷ (K.Transient, flag_node x.transient) ∷ (K.InitialValue, option_map expr_node x.start)
    ∷ (K.Comment, option_map word x.note) ∷ [])
    (kept_text x.name.at x.name.name n, (kept_kind 0 x.kind_at x.kind k, (kept_flag x.transient, (v, (w, tt)))))

pub kept_write : (w : Write) → is_utf8 w.target.name ≡ true → KeptNode (expr_node w.value) → KeptNode (write_node w)
kept_write w n v = kept_object 0 ((K.Ref, Some (name_node w.target)) ∷ (K.Value, Some (expr_node w.value)) ∷ []) (kept_text w.target.at w.target.name n, (v, tt))

pub kept_location : (l : Location) → is_utf8 l.name.name ≡ true → OfSome KeptNode (some_list write_node l.values) → KeptNode (location_node l)
kept_location l n v = kept_object 0 ((K.Name, Some (name_node l.name)) ∷ (K.TransientValues, some_list write_node l.values) ∷ []) (kept_text l.name.at l.name.name n, (v, tt))

pub kept_destination : (d : Destination) → is_utf8 d.location.name ≡ true → OfSome KeptNode (option_map boxed_node d.weight) → OfSome KeptNode (some_list write_node d.writes) → KeptNode (destination_node d)
kept_destination d n v w =
    kept_object 0 ((K.Location, Some (name_node d.location)) ∷ (K.Probability, option_map boxed_node d.weight) ∷ (K.Assignments, some_list write_node d.writes) ∷ [])
    (kept_text d.location.at d.location.name n, (v, (w, tt)))

pub kept_edge : (e : Edge) → is_utf8 e.location.name ≡ true → OfSome KeptNode (option_map name_node e.action) → OfSome KeptNode (option_map boxed_node e.guard) →
    KeptNode (list_node destination_node 0 e.destinations) → KeptNode (edge_node e)
kept_edge e n a g d =
    kept_object 0
    ((K.Location, Some (name_node e.location)) ∷ (K.Action, option_map name_node e.action) ∷ (K.Guard, option_map boxed_node e.guard) ∷ (K.Destinations, Some (list_node destination_node e.at e.destinations)) ∷ [])
    (kept_text e.location.at e.location.name n, (a, (g, (kept_at destination_node e.at e.destinations d, tt))))

pub kept_automaton : (a : Automaton) → is_utf8 a.name.name ≡ true → OfSome KeptNode (some_list var_node a.variables) → KeptNode (list_node location_node 0 a.locations) →
    KeptNode (list_node name_node 0 (map (λ n. n) a.initial)) → KeptNode (list_node edge_node 0 a.edges) → KeptNode (automaton_node a)
kept_automaton a n v l i e =
    kept_object 0
    ((K.Name, Some (name_node a.name)) ∷ (K.Variables, some_list var_node a.variables) ∷ (K.Locations, Some (list_node location_node 0 a.locations))
    ∷ (K.InitialLocations, Some (list_node name_node 0 a.initial)) ∷ (K.Edges, Some (list_node edge_node 0 a.edges)) ∷ [])
    (kept_text a.name.at a.name.name n, (v, (l, (subst (λ ns. KeptNode (list_node name_node 0 ns)) (map-id a.initial) i, (e, tt)))))

pub kept_vector : (x : Vector) → KeptNode (list_node part_node 0 (map (λ n. n) x.parts)) → OfSome KeptNode (option_map name_node x.result) → KeptNode (vector_node x)
kept_vector x p r = kept_object 0 ((K.Synchronise, Some (list_node part_node x.at x.parts)) ∷ (K.Result, option_map name_node x.result) ∷ []) (kept_at part_node x.at x.parts (subst (λ ns. KeptNode (list_node part_node 0 ns)) (map-id x.parts) p), (r, tt))

pub kept_element : (e : Element) → is_utf8 e.name.name ≡ true → OfSome KeptNode (some_list name_node (map (λ n. n) e.enable)) → KeptNode (element_node e)
kept_element e n v =
    kept_object 0 ((K.Automaton, Some (name_node e.name)) ∷ (K.InputEnable, some_list name_node e.enable) ∷ [])
    (kept_text e.name.at e.name.name n, (subst (λ ns. OfSome KeptNode (some_list name_node ns)) (map-id e.enable) v, tt))

pub kept_system : (elements : List Element) (vectors : List Vector) → KeptNode (list_node element_node 0 elements) → KeptNode (list_node vector_node 0 vectors) → KeptNode (system_node elements 0 vectors)
kept_system elements vectors e v =
    kept_object 0 ((K.Elements, Some (list_node element_node 0 elements)) ∷ (K.Syncs, Some (list_node vector_node 0 vectors)) ∷ []) (e, (v, tt))

kept_system_at : (elements : List Element) (at : ℕ) (vectors : List Vector) → KeptNode (system_node elements 0 vectors) → KeptNode (system_node elements at vectors)
kept_system_at elements at vectors h = record { proper = h.proper }

pub kept_whole : (f : File) → OfAll (λ n. KeptNode (name_node n)) f.actions → KeptNode (list_node const_node 0 f.constants) → KeptNode (list_node var_node 0 f.variables) → OfSome KeptNode (option_map boxed_node f.restrict) → KeptNode f.properties →
    KeptNode (list_node automaton_node 0 f.automata) → KeptNode (system_node f.elements 0 f.vectors) → KeptNode (file_node f)
kept_whole f a c v r p m x =
    kept_file head_members (file_members f) kept_head (kept_keyed_list K.Name 0 f.actions a, (c, (v, (r, (p, (m, (kept_system_at f.elements f.elements_at f.vectors x, tt)))))))
