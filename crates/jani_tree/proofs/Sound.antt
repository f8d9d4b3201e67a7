-- The canonical value of a tree has no fault of shape, its numbers are in normal form, and no object of it has a key twice.
use Rattle.std.proofs.Common.{◌≡◌, ℕ, ◌<◌, refl, sym, ap, subst, ◌∙◌, List, [], ◌∷◌, ◌++◌, length, Option, Some, None, Bool, true, false, ◌||◌, not, is_some, if◌then◌else◌, arith}
use Rattle.std.specs.Prelude.{pos, codes, nat_lt}
use Rattle.std.specs.Option.{option_map}
use Rattle.std.proofs.lemmas.Bool.Decides.{nat_tests}
use Rattle.basics.specs.Lists.{append_right, append_both, append_left, IsNotEmpty as HasItems}
use Rattle.bridge_io.specs.declared.reason.Fault.{Fault}
use Rattle.bridge_io.specs.declared.reason.Named.{Named}
use Rattle.bridge_io.specs.declared.reason.Reason.TheVariants.{TooLong, WrongShape, LeftOut, MissingMember}
use Rattle.frac_core.specs.Fraction.{same_number, unit}
use Rattle.frac_core.specs.Decimal.{decimal_value, times-ten_to}
use Rattle.op_trees.specs.Tree.{Truth, Number, Name, One, Two, Three}
use Rattle.op_trees.specs.declared.tree.Ty.{Ty}
use Rattle.op_trees.specs.declared.tree.Ty.TheVariants as T
use Rattle.jani_table.specs.declared.key.Key.{Key}
use Rattle.jani_table.specs.declared.key.Key.TheVariants as K
use Rattle.jani_table.specs.declared.table.Form.{Form}
use Rattle.jani_table.specs.declared.table.Form.TheVariants as F
use Rattle.jani_table.specs.declared.table.Kind.{Kind}
use Rattle.jani_table.specs.declared.table.Kind.TheVariants as O
use Rattle.jani_table.specs.declared.operator.JaniOp.{JaniOp}
use Rattle.jani_table.specs.Node.{Node, null, truth, number, text, array, object, no_fields}
use Rattle.jani_table.specs.Words.{name_fault, unless, ty_text, ty_of, feature_of, refused_of}
use Rattle.jani_table.specs.Operators.{op_of, op_text}
use Rattle.jani_table.specs.Faults.{faults, fault_if, or_unclear, op_kind, has, fault_unless, is_true, member, other_faults}
use Rattle.jani_tree.specs.Syntax.{Expression, Const, VarKind, boolean, integer, number as real, real_bounded, one_sided, bounded, Var, Write, Location, Destination, Edge, Automaton, Element, Vector, File}
use Rattle.std.specs.List.{AllByRecursion as OfAll}
use Rattle.basics.specs.Options.{IfAny as OfSome}
use Rattle.jani_tree.specs.Canonical.{with_members, object_of, list_node, some_list, word, name_node, keyed_node, expr_node, boxed_node, bounded_word, kind_node, const_node, flag_node, var_node, write_node, location_node, destination_node, edge_node, automaton_node, element_node, part_node, vector_node, system_node, version_node, features_node, head_members, file_members, file_node, HasBounds, VarForm, AutomatonForm, FileForm}
use Rattle.jani_tree.specs.Form.{IsGiven, IsShortName, NormalNode, KeysOnce, FileWith, NameForm, ExprForm, KindForm, ConstRead, VarRead, WriteRead, LocationRead, DestinationRead, EdgeRead, AutomatonRead, ElementRead, PartForm, VectorRead, RestrictionRead}
use Rattle.jani_tree.proofs.Again.{op_again, kind_one, kind_two, kind_three, ty_again}
use Rattle.jani_tree.proofs.Filled.{IsByParts, Good, has_members, object_good, list_good, some_list_good, option_good}

-- ---- names
within : (n at : ℕ) (t : Bool) → nat_lt n 256 ≡ t → n < 256 → fault_if at (unless t TooLong) ≡ []
within n at true e h = refl
within n at false e h = absurd (let k : nat_lt n 256 ≡ true = grind (arith, nat_tests) in cc)

pub short_name : (at : ℕ) (s : List ℕ) → IsShortName s → fault_if at (name_fault s) ≡ []
short_name at [] h = absurd h.some
short_name at (b ∷ bs) h = within (length (b ∷ bs)) at (nat_lt (length (b ∷ bs)) 256) refl h.short

-- a name that is too long is the only fault
abbrev pub OnlyLong : List Fault → Type 0
OnlyLong = OfAll (λ f. f.reason ≡ TooLong)

pub any_name : (at : ℕ) (s : List ℕ) → HasItems s → OnlyLong (fault_if at (name_fault s))
any_name at [] h = absurd h
any_name at (b ∷ bs) h = by_length (nat_lt (length (b ∷ bs)) 256)
  where
    by_length : (t : Bool) → OnlyLong (fault_if at (unless t TooLong))
    by_length true = tt
    by_length false = (refl, tt)

pub only_long : IsByParts OnlyLong
only_long = record { none = tt; both = both; left = left; right = right }
  where
    both : (xs ys : List Fault) → OnlyLong xs → OnlyLong ys → OnlyLong (xs ++ ys)
    both [] ys h k = k
    both (x ∷ xs) ys h k = (h.0, both xs ys h.1 k)

    left : (xs ys : List Fault) → OnlyLong (xs ++ ys) → OnlyLong xs
    left [] ys h = tt
    left (x ∷ xs) ys h = (h.0, left xs ys h.1)

    right : (xs ys : List Fault) → OnlyLong (xs ++ ys) → OnlyLong ys
    right [] ys h = h
    right (x ∷ xs) ys h = right xs ys h.1

abbrev pub IsNone : List Fault → Type 0
IsNone fs = fs ≡ []

pub no_fault : IsByParts IsNone
no_fault = record { none = refl; both = append_both; left = append_left; right = append_right }

-- ---- trees, by what is asked of names and of faults
module _ (C : List Fault → Type 0) (by : IsByParts C) (IsName : List ℕ → Type 0) (fine : (at : ℕ) (s : List ℕ) → IsName s → C (fault_if at (name_fault s))) where
  -- ---- strings

  text_good : (form : Form) (at : ℕ) (s : List ℕ) → faults form (text at s) ≡ [] → Good C form (text at s)
  text_good form at s e = record { clean = subst C (sym e) by.none; normal = tt; once = tt }

  name_good : (n : Named) → (NameForm IsName) n → Good C F.Name (name_node n)
  name_good n h = record { clean = fine n.at n.name h; normal = tt; once = tt }

  note_good : (comment : Option (List ℕ)) → OfSome (Good C F.Text) (option_map word comment)
  note_good None = tt
  note_good (Some s) = text_good F.Text 0 s refl

  names_good : (n : Option Named) → OfSome (NameForm IsName) n → OfSome (Good C F.Name) (option_map name_node n)
  names_good n h = option_good C by F.Name name_node (NameForm IsName) name_good n h

  -- ---- expressions

  op_good : (o : JaniOp) → Good C F.Operator (word (op_text o))
  op_good o = text_good F.Operator 0 (op_text o) (ap (λ p. fault_if 0 (if is_some p then None else Some (if is_some (refused_of (op_text o)) then LeftOut else WrongShape))) (op_again o))

  -- the table of an object with this operator
  table_of : (o : JaniOp) (kind : Kind) → op_kind o ≡ kind → Some (or_unclear (op_of (op_text o))) ≡ Some kind
  table_of o kind e = ap (λ p. Some (or_unclear p)) (op_again o) ∙ ap Some e

  expr_good : (e : Expression) → (ExprForm IsName) e → Good C F.Expression (expr_node e)
  expr_good (Truth at b) h = record { clean = by.none; normal = tt; once = tt }
  expr_good (Number at d) h = record { clean = by.none; normal = h; once = tt }
  expr_good (Name at x) h = record { clean = fine at x h; normal = tt; once = tt }
  expr_good (One at o a) h = object_good C by F.Expression O.Unary at ((K.Op, Some (word (op_text o))) ∷ (K.Exp, Some (expr_node a)) ∷ []) (table_of o O.Unary (kind_one o h.0)) (op_good o, (expr_good a h.1, tt)) refl refl refl
  expr_good (Two at o a b) h =
      object_good C by F.Expression O.Binary at ((K.Op, Some (word (op_text o))) ∷ (K.Left, Some (expr_node a)) ∷ (K.Right, Some (expr_node b)) ∷ []) (table_of o O.Binary (kind_two o h.0))
      (op_good o, (expr_good a h.1, (expr_good b h.2, tt))) refl refl refl
  expr_good (Three at o a b c) h =
      object_good C by F.Expression O.Choice at ((K.Op, Some (word (op_text o))) ∷ (K.If, Some (expr_node a)) ∷ (K.Then, Some (expr_node b)) ∷ (K.Else, Some (expr_node c)) ∷ []) (table_of o O.Choice (kind_three o h.0))
      (op_good o, (expr_good a h.1, (expr_good b h.2, (expr_good c h.3, tt)))) refl refl refl

  some_good : (e : Option Expression) → OfSome (ExprForm IsName) e → OfSome (Good C F.Expression) (option_map expr_node e)
  some_good e h = option_good C by F.Expression expr_node (ExprForm IsName) expr_good e h

  boxed_good : (e : Expression) → (ExprForm IsName) e → Good C F.Boxed (boxed_node e)
  boxed_good e h = object_good C by F.Boxed O.Boxed 0 ((K.Exp, Some (expr_node e)) ∷ []) refl (expr_good e h, tt) refl refl refl

  some_boxed_good : (e : Option Expression) → OfSome (ExprForm IsName) e → OfSome (Good C F.Boxed) (option_map boxed_node e)
  some_boxed_good e h = option_good C by F.Boxed boxed_node (ExprForm IsName) boxed_good e h

  -- ---- types, constants, variables

  constant_type_good : (t : Ty) → Good C F.ConstantType (word (ty_text t))
  constant_type_good t = text_good F.ConstantType 0 (ty_text t) (ap (λ o. fault_if 0 (unless (is_some o) WrongShape)) (ty_again t))

  kind_good : (at : ℕ) (k : VarKind) → (KindForm IsName) k → HasBounds k → Good C F.VariableType (kind_node at k)
  unfolding ty_of
  kind_good at boolean h g = text_good F.VariableType at (ty_text T.Bool) refl
  kind_good at integer h g = text_good F.VariableType at (ty_text T.Int) refl
  kind_good at real h g = text_good F.VariableType at (ty_text T.Real) refl
  kind_good at real_bounded h g = absurd g
  kind_good at one_sided h g = absurd g
  kind_good at (bounded low high) h g =
      object_good C by F.VariableType O.Range at ((K.Kind, Some bounded_word) ∷ (K.Base, Some (word (ty_text T.Int))) ∷ (K.LowerBound, Some (expr_node low)) ∷ (K.UpperBound, Some (expr_node high)) ∷ [])
      refl (text_good F.BoundedWord 0 (codes "bounded") refl, (text_good F.BaseWord 0 (ty_text T.Int) refl, (expr_good low h.0, (expr_good high h.1, tt)))) refl refl refl

  const_good : (c : Const) → (ConstRead IsName) c → Good C F.Constant (const_node c)
  const_good c h =
      object_good C by F.Constant O.Constant 0
      ((K.Name, Some (name_node c.name)) ∷ (K.Type, Some (word (ty_text c.ty))) ∷ (K.Value, option_map expr_node c.value) ∷ (K.Comment, option_map word c.note) ∷ [])
      refl (name_good c.name h.name, (constant_type_good c.ty, (some_good c.value h.value, (note_good c.note, tt)))) refl refl refl

  flag_good : (b : Bool) → OfSome (Good C F.Truth) (flag_node b)
  flag_good true = record { clean = by.none; normal = tt; once = tt }
  flag_good false = tt

  abbrev var_members : Named → VarKind → ℕ → Bool → Option Expression → Option (List ℕ) → List (Key × Option Node)
  var_members n k at b start comment =
      (K.Name, Some (name_node n)) ∷ (K.Type, Some (kind_node at k)) ∷ (K.Transient, flag_node b) ∷ (K.InitialValue, option_map expr_node start) ∷ (K.Comment, option_map word comment) ∷ []

  -- the first value of a variable is there
  first_there : (a b : Bool) (at : ℕ) → a ≡ true → fault_unless (a || b) at MissingMember ≡ []
  first_there true b at e = refl
  first_there false b at e = absurd cc

  -- a variable that isn't transient needs none
  none_needed : (n : Named) (k : VarKind) (at : ℕ) (comment : Option (List ℕ)) → other_faults O.Variable (with_members no_fields (var_members n k at false None comment)) 0 0 ≡ []
  none_needed n k at None = refl
  none_needed n k at (Some s) = refl

  var_parts : (n : Named) (k : VarKind) (at : ℕ) (b : Bool) (start : Option Expression) (comment : Option (List ℕ)) → (NameForm IsName) n → (KindForm IsName) k → HasBounds k → OfSome (ExprForm IsName) start → (b ≡ true → IsGiven start) →
      Good C F.Variable (object_of 0 (var_members n k at b start comment))
  var_parts n k at true None comment f g i h j = absurd (j refl)
  var_parts n k at false None comment f g i h j =
      object_good C by F.Variable O.Variable 0 (var_members n k at false None comment) refl (name_good n f, (kind_good at k g i, (tt, (tt, (note_good comment, tt))))) refl refl (none_needed n k at comment)
  var_parts n k at b (Some e) comment f g i h j =
      let ms = var_members n k at b (Some e) comment in
      object_good C by F.Variable O.Variable 0 ms refl (name_good n f, (kind_good at k g i, (flag_good b, (expr_good e h, (note_good comment, tt))))) refl refl
      (first_there (has K.InitialValue (with_members no_fields ms)) (not (is_true (member K.Transient (with_members no_fields ms)))) 0 (has_members K.InitialValue ms))

  -- the form of a variable that is read, and its type has a value
  abbrev VarGood : Var → Type 0
  VarGood x = (VarRead IsName) x × VarForm x

  var_good : (x : Var) → VarGood x → Good C F.Variable (var_node x)
  var_good x h = var_parts x.name x.kind x.kind_at x.transient x.start x.note h.0.name h.0.kind h.1.kind h.0.start h.0.begins

  -- ---- automata

  transient_good : (w : Write) → (WriteRead IsName) w → Good C F.TransientValue (write_node w)
  transient_good w h = object_good C by F.TransientValue O.TransientValue 0 ((K.Ref, Some (name_node w.target)) ∷ (K.Value, Some (expr_node w.value)) ∷ []) refl (name_good w.target h.target, (expr_good w.value h.value, tt)) refl refl refl

  assignment_good : (w : Write) → (WriteRead IsName) w → Good C F.Assignment (write_node w)
  assignment_good w h = object_good C by F.Assignment O.Assignment 0 ((K.Ref, Some (name_node w.target)) ∷ (K.Value, Some (expr_node w.value)) ∷ []) refl (name_good w.target h.target, (expr_good w.value h.value, tt)) refl refl refl

  location_good : (l : Location) → (LocationRead IsName) l → Good C F.Location (location_node l)
  location_good l h =
      object_good C by F.Location O.Location 0 ((K.Name, Some (name_node l.name)) ∷ (K.TransientValues, some_list write_node l.values) ∷ [])
      refl (name_good l.name h.name, (some_list_good C by F.TransientValues F.TransientValue write_node (WriteRead IsName) refl transient_good (λ vs. refl) l.values h.values, tt)) refl refl refl

  destination_good : (d : Destination) → (DestinationRead IsName) d → Good C F.Destination (destination_node d)
  destination_good d h =
      object_good C by F.Destination O.Destination 0 ((K.Location, Some (name_node d.location)) ∷ (K.Probability, option_map boxed_node d.weight) ∷ (K.Assignments, some_list write_node d.writes) ∷ [])
      refl (name_good d.location h.location, (some_boxed_good d.weight h.weight, (some_list_good C by F.Assignments F.Assignment write_node (WriteRead IsName) refl assignment_good (λ vs. refl) d.writes h.writes, tt))) refl refl refl

  destinations_good : (at : ℕ) (ds : List Destination) → OfAll (DestinationRead IsName) ds → HasItems ds → Good C F.Destinations (list_node destination_node at ds)
  destinations_good at [] h s = absurd s
  destinations_good at (d ∷ ds) h s = list_good C by F.Destinations F.Destination destination_node (DestinationRead IsName) refl destination_good at (d ∷ ds) h refl

  edge_good : (e : Edge) → (EdgeRead IsName) e → Good C F.Edge (edge_node e)
  edge_good e h =
      object_good C by F.Edge O.Edge 0
      ((K.Location, Some (name_node e.location)) ∷ (K.Action, option_map name_node e.action) ∷ (K.Guard, option_map boxed_node e.guard) ∷ (K.Destinations, Some (list_node destination_node e.at e.destinations)) ∷ [])
      refl (name_good e.location h.location, (names_good e.action h.action, (some_boxed_good e.guard h.guard, (destinations_good e.at e.destinations h.destinations h.some, tt)))) refl refl refl

  initial_good : (ns : List Named) → OfAll (NameForm IsName) ns → HasItems ns → Good C F.InitialLocations (list_node name_node 0 ns)
  initial_good [] h s = absurd s
  initial_good (n ∷ ns) h s = list_good C by F.InitialLocations F.Name name_node (NameForm IsName) refl name_good 0 (n ∷ ns) h refl

  both_all : {A : Type 0} (P Q : A → Type 0) (xs : List A) → OfAll P xs → OfAll Q xs → OfAll (λ x. P x × Q x) xs
  both_all P Q [] p q = tt
  both_all P Q (x ∷ xs) p q = ((p.0, q.0), both_all P Q xs p.1 q.1)

  abbrev AutomatonGood : Automaton → Type 0
  AutomatonGood a = (AutomatonRead IsName) a × AutomatonForm a

  automaton_good : (a : Automaton) → AutomatonGood a → Good C F.Automaton (automaton_node a)
  automaton_good a h =
      object_good C by F.Automaton O.Automaton 0
      ((K.Name, Some (name_node a.name)) ∷ (K.Variables, some_list var_node a.variables) ∷ (K.Locations, Some (list_node location_node 0 a.locations))
      ∷ (K.InitialLocations, Some (list_node name_node 0 a.initial)) ∷ (K.Edges, Some (list_node edge_node 0 a.edges)) ∷ [])
      refl (
        name_good a.name h.0.name,
        (
          some_list_good C by F.Variables F.Variable var_node VarGood refl var_good (λ vs. refl) a.variables (both_all (VarRead IsName) VarForm a.variables h.0.variables h.1.variables),
          (
            list_good C by F.Locations F.Location location_node (LocationRead IsName) refl location_good 0 a.locations h.0.locations refl,
            (
              initial_good a.initial h.0.initial h.0.begins,
              (list_good C by F.Edges F.Edge edge_node (EdgeRead IsName) refl edge_good 0 a.edges h.0.edges refl, tt),
            ),
          ),
        ),
      )
      refl refl refl

  -- ---- the composition and the file

  part_good : (p : Option Named) → (PartForm IsName) p → Good C F.NameOrNull (part_node p)
  part_good None h = record { clean = by.none; normal = tt; once = tt }
  part_good (Some n) h = record { clean = fine n.at n.name h; normal = tt; once = tt }

  vector_good : (x : Vector) → (VectorRead IsName) x → Good C F.Vector (vector_node x)
  vector_good x h =
      object_good C by F.Vector O.Vector 0 ((K.Synchronise, Some (list_node part_node x.at x.parts)) ∷ (K.Result, option_map name_node x.result) ∷ [])
      refl (list_good C by F.Synchronise F.NameOrNull part_node (PartForm IsName) refl part_good x.at x.parts h.parts refl, (names_good x.result h.result, tt)) refl refl refl

  action_good : (n : Named) → (NameForm IsName) n → Good C F.Action (keyed_node K.Name n)
  action_good n h = object_good C by F.Action O.Action 0 ((K.Name, Some (name_node n)) ∷ []) refl (name_good n h, tt) refl refl refl

  element_good : (e : Element) → (ElementRead IsName) e → Good C F.Element (element_node e)
  element_good e h =
      object_good C by F.Element O.Element 0 ((K.Automaton, Some (name_node e.name)) ∷ (K.InputEnable, some_list name_node e.enable) ∷ [])
      refl (name_good e.name h.name, (some_list_good C by F.InputEnable F.Name name_node (NameForm IsName) refl name_good (λ vs. refl) e.enable h.enable, tt)) refl refl refl

  system_good : (elements : List Element) (at : ℕ) (vectors : List Vector) → OfAll (ElementRead IsName) elements → OfAll (VectorRead IsName) vectors → Good C F.System (system_node elements at vectors)
  system_good elements at vectors h g =
      object_good C by F.System O.System 0 ((K.Elements, Some (list_node element_node at elements)) ∷ (K.Syncs, Some (list_node vector_node 0 vectors)) ∷ [])
      refl (list_good C by F.Elements F.Element element_node (ElementRead IsName) refl element_good at elements h refl, (list_good C by F.Vectors F.Vector vector_node (VectorRead IsName) refl vector_good 0 vectors g refl, tt)) refl refl refl

  version_value : decimal_value (record { real = false; negative = false; digits = 1; exponent = pos 0 }) ≡ unit
  unfolding decimal_value
  version_value = times-ten_to (pos 1) 0

  version_good : Good C F.Version version_node
  version_good = record { clean = subst C (sym (ap (λ x. fault_if 0 (unless (same_number x unit) WrongShape)) version_value)) by.none; normal = refl; once = tt }

  features_good : Good C F.Features features_node
  unfolding feature_of
  features_good = record { clean = by.none; normal = (tt, (tt, tt)); once = (tt, (tt, tt)) }

  restriction_good : (e : Expression) → (RestrictionRead IsName) e → Good C F.Boxed (boxed_node e)
  restriction_good e h = boxed_good e h.expression

  -- any value may stand as the properties
  anything_good : (v : Node) → NormalNode v → KeysOnce v → Good C F.Anything v
  anything_good v n k = record { clean = subst C (sym (any v)) by.none; normal = n; once = k }
    where
      any : (v : Node) → faults F.Anything v ≡ []
      any (null at) = refl
      any (truth at b) = refl
      any (number at d) = refl
      any (text at s) = refl
      any (array at vs) = refl
      any (object at ms close) = refl

  pub file_good : (f : File) → FileWith IsName f → FileForm f → KeysOnce f.properties → Good C F.Model (file_node f)
  file_good f h g k =
      object_good C by F.Model O.Model 0 (head_members ++ file_members f) refl (
        version_good,
        (
          text_good F.Text 0 (codes "model") refl,
          (
            text_good F.ModelType 0 (codes "mdp") refl,
            (
              features_good,
              (
                list_good C by F.Actions F.Action (keyed_node K.Name) (NameForm IsName) refl action_good 0 f.actions h.actions refl,
                (
                  list_good C by F.Constants F.Constant const_node (ConstRead IsName) refl const_good 0 f.constants h.constants refl,
                  (
                    list_good C by F.Variables F.Variable var_node VarGood refl var_good 0 f.variables (both_all (VarRead IsName) VarForm f.variables h.variables g.variables) refl,
                    (
                      option_good C by F.Boxed boxed_node (RestrictionRead IsName) restriction_good f.restrict h.restrict,
                      (
                        anything_good f.properties h.properties k,
                        (
                          list_good C by F.Automata F.Automaton automaton_node AutomatonGood refl automaton_good 0 f.automata (both_all (AutomatonRead IsName) AutomatonForm f.automata h.automata g.automata) refl,
                          (system_good f.elements f.elements_at f.vectors h.elements h.vectors, tt),
                        ),
                      ),
                    ),
                  ),
                ),
              ),
            ),
          ),
        ),
      )
      refl refl refl
