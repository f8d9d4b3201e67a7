-- Expressions of properties that are the same as translated ones have no fault of names and of types.
use Rattle.std.specs.Prelude.{◌≡◌, ℕ, List, [], map, Bool, true, false, not, ◌||◌, IsTrue, is_some}
use Rattle.std.specs.List.{AllByRecursion as Each}
use Rattle.std.proofs.Common.{refl, sym, ap, ap₂, subst, ◌∙◌}
use Rattle.basics.specs.Each.{each_then, each_empty}
use Rattle.basics.specs.Lists.{append_left, append_right, append_both}
use Rattle.bridge_io.specs.declared.reason.Reason.TheVariants.{Unknown, WrongType, NotConstant}
use Rattle.op_trees.specs.declared.tree.Ty.{Ty}
use Rattle.op_trees.specs.declared.tree.Ty.TheVariants as T
use Rattle.op_trees.specs.Tree.{AllNames, bare}
use Rattle.op_trees.specs.Types.{Types, type_in, misfits}
use Rattle.op_trees.specs.TypeLaws.{misfits_none, type_same}
use Rattle.op_trees.specs.Names.{names_of, offset_of, some_name}
use Rattle.op_trees.specs.NameLaws.{some_name-bare, names_with, none_named, named_none}
use Rattle.op_trees.specs.SeenLaws.{names_then}
use Rattle.op_trees.specs.Wanted.{wanted_by, is_wanted, is_unwanted}
use Rattle.name_rules.specs.Least.{fault}
use Rattle.name_rules.specs.Unknown.{unless_known}
use Rattle.name_rules.proofs.Plain.{no_fault, fault_none}
use Rattle.prism_tree.specs.Syntax as prism
use Rattle.prism_tree.specs.Operators.{prism_meaning}
use Rattle.prism_print.specs.Same.{bare_file}
use Rattle.prism_check.specs.TypeFaults.{is_variable}
use Rattle.prism_check.proofs.NamesIn.{names_listed}
use Rattle.jani_tree.specs.Syntax.{Expression, File}
use Rattle.jani_check.specs.Things.{global_thing}
use Rattle.jani_check.specs.TypeFaults as jani_types
use Rattle.jani_check.specs.Faults.{IsChecked}
use Rattle.jani_images.specs.Image.{image}
use Rattle.prism_translation.specs.Translated.{translated}
use Rattle.prism_translation_laws.proofs.TypedImages.{HasType, HasPrismType, has_type, image_has_type, image_names}
use Rattle.prop_grammar.specs.declared.syntax.Structure.{Structure}
use Rattle.prop_grammar.specs.Grammar.{has_quotes}
use Rattle.prop_grammar.specs.Property.{Ask, greatest, least, bounded, greatest_reward, least_reward, Path, finally, globally, until, weak_until, finally_within, until_within}
use Rattle.prop_trees.specs.Trees.{Name, Role, state, steps, probability, ask_parts, path_parts, ask_with, path_with, SameAsk, SamePath}
use Rattle.prop_trees.specs.Names.{meant, IsMeant}
use Rattle.prop_trees.specs.PrismFaults.{wanted_of, is_known, unknown_in, name_types, type_faults_of, varies, constant_faults, part_faults}
use Rattle.prop_trees.specs.Text.{plain_name}
use Rattle.prop_trees.specs.Back.{SameExpression, with_names, names_written}
use Rattle.jani_props.specs.Faults as jani
use Rattle.jani_props.specs.Faults.{wrong_in}
use Rattle.prop_to_prism.specs.ToPrism.{new_property_name, new_names, translated_expression}
use Rattle.prop_to_prism.specs.Code.{plain_new}
use Rattle.prop_to_prism.proofs.Agreeing.{IsKnown}
use Rattle.prop_to_prism.proofs.Declared.{IsDeclared, new_declared}
use Rattle.prop_to_prism.proofs.Places.{known_alike, types_alike, varies_alike}
use Rattle.prop_to_prism.proofs.Printing.{HasMeaning, has_meanings}
use Rattle.prop_to_prism.proofs.Texts.{renamed_image}

-- ---- what an expression of each role has to be
abbrev role_type : Role → Ty
role_type state = T.Bool
role_type steps = T.Int
role_type probability = T.Real

wanted_is : (r : Role) → wanted_of r ≡ wanted_by (role_type r)
wanted_is state = refl
wanted_is steps = refl
wanted_is probability = refl

-- a bound names constants alone
abbrev IsFixed : prism.File → Role → prism.Expression → Type 0
IsFixed model state x = Unit {0}
IsFixed model steps x = varies model x ≡ false
IsFixed model probability x = varies model x ≡ false

-- its names are known, it has a type that is wanted, and a bound doesn't vary
record IsSound (model : prism.File) (r : Role) (x : prism.Expression) : Type 0 where
  known : some_name (λ y. not (is_known model y)) x ≡ false
  typed : HasPrismType (name_types model) (role_type r) x
  fixed : IsFixed model r x

-- ---- so it has no fault
abbrev pub HasNone : prism.File → Role × prism.Expression → Type 0
HasNone model x = (unknown_in model x ≡ []) × (part_faults model x ≡ [])

module _ (model : prism.File) where
  none_unknown : (r : Role) (x : prism.Expression) → some_name (λ y. not (is_known model y)) x ≡ false → unknown_in model (r, x) ≡ []
  none_unknown r x h =
      each_empty (unless_known (is_known model)) (names_of x)
      (each_then (λ n. not (is_known model n.name) ≡ false) (λ n. unless_known (is_known model) n ≡ []) (λ n k. fault_none (not (is_known model n.name)) n.at Unknown k) (names_of x)
      (names_listed (λ y. not (is_known model y) ≡ false) x (none_named (λ y. not (is_known model y)) x h)))

  none_mistyped : (r : Role) (x : prism.Expression) → HasPrismType (name_types model) (role_type r) x → type_faults_of model r x ≡ []
  none_mistyped r x h =
      append_both (map (λ at. fault at WrongType) (misfits prism_meaning (name_types model) x)) _
      (ap (map (λ at. fault at WrongType)) ((misfits_none prism_meaning (name_types model) x).1 (subst (λ o. IsTrue (is_some o)) (sym h.is) refl)))
      (fault_none (is_unwanted (wanted_of r) (type_in prism_meaning (name_types model) x)) (offset_of x) WrongType
      (ap (is_unwanted (wanted_of r)) h.is ∙ ap (λ w. not (is_wanted w h.type)) (wanted_is r) ∙ ap not h.wanted))

  none_varying : (r : Role) (x : prism.Expression) → IsFixed model r x → constant_faults model r x ≡ []
  none_varying state x h = refl
  none_varying steps x h = fault_none (varies model x) (offset_of x) NotConstant h
  none_varying probability x h = fault_none (varies model x) (offset_of x) NotConstant h

  has_none : (r : Role) (x : prism.Expression) → IsSound model r x → HasNone model (r, x)
  has_none r x h = (none_unknown r x h.known, append_both (type_faults_of model r x) (constant_faults model r x) (none_mistyped r x h.typed) (none_varying r x h.fixed))

-- ---- another tree of the same model, and another of the same expression
module _ (new old : prism.File) (same : bare_file new ≡ bare_file old) where
  fixed_same : (r : Role) (x e : prism.Expression) → bare x ≡ bare e → IsFixed old r e → IsFixed new r x
  fixed_same state x e b h = tt
  fixed_same steps x e b h = varies_alike new old same x e b ∙ h
  fixed_same probability x e b h = varies_alike new old same x e b ∙ h

  sound_same : (r : Role) (x e : prism.Expression) → bare x ≡ bare e → IsSound old r e → IsSound new r x
  sound_same r x e b h = record {
    known =
        ap (λ (k : Name → Bool). some_name (λ y. not (k y)) x) (known_alike new old same)
        ∙ sym (some_name-bare (λ y. not (is_known old y)) x)
        ∙ ap (some_name (λ y. not (is_known old y))) b
        ∙ some_name-bare (λ y. not (is_known old y)) e
        ∙ h.known;
    typed = record {
      type = h.typed.type;
      is = ap (λ (ty : Types). type_in prism_meaning ty x) (types_alike new old same) ∙ type_same prism_meaning x e b (name_types old) ∙ h.typed.is;
      wanted = h.typed.wanted;
    };
    fixed = fixed_same r x e b h.fixed;
  }

-- ---- images of the expressions of properties in which nothing is found
module _ (file : File) (checked : IsChecked file) where
  abbrev model : prism.File
  model = translated file

  abbrev new : Name → Name
  new x = plain_new file (new_names file) x

  -- its names are known, and the phase of types finds nothing in it
  abbrev pub IsRight : Role × Expression → Type 0
  IsRight x = (wrong_in (global_thing file) x ≡ []) × IsKnown file x.1

  typed_jani : (r : Role) (e : Expression) → jani_types.type_faults_of (jani.name_types (global_thing file)) (wanted_of r) e ≡ [] → HasType (jani.name_types (global_thing file)) (role_type r) e
  typed_jani state e h = has_type (jani.name_types (global_thing file)) T.Bool e h
  typed_jani steps e h = has_type (jani.name_types (global_thing file)) T.Int e h
  typed_jani probability e h = has_type (jani.name_types (global_thing file)) T.Real e h

  -- each name is declared
  abbrev AreDeclared : Expression → Type 0
  AreDeclared e = AllNames (λ x. IsDeclared file checked (new x) (jani.meaning (global_thing file) x)) e

  are_declared : (e : Expression) → IsKnown file e → HasMeaning file e → AreDeclared e
  are_declared e k m =
      names_with (λ x. jani.is_known (global_thing file) x ≡ true) (λ x. IsMeant (meant x)) (λ x. IsDeclared file checked (new x) (jani.meaning (global_thing file) x)) (new_declared file checked) e k m

  constant_image : (e : Expression) → AreDeclared e → some_name (jani.varies (global_thing file)) e ≡ false → varies model (image new e) ≡ false
  constant_image e d h =
      let both =
      names_with (λ x. IsDeclared file checked (new x) (jani.meaning (global_thing file) x)) (λ x. jani.varies (global_thing file) x ≡ false)
      (λ x. (has_quotes (new x) ≡ false) × (is_variable model (new x) ≡ false)) (λ x i k. i.fixed k) e d (none_named (jani.varies (global_thing file)) e h) in
      ap₂ (λ a b. a || b)
      (named_none has_quotes (image new e)
      (image_names (λ y. has_quotes y ≡ false) new e (names_then (λ x. (has_quotes (new x) ≡ false) × (is_variable model (new x) ≡ false)) (λ x. has_quotes (new x) ≡ false) (λ x q. q.0) e both)))
      (named_none (is_variable model) (image new e)
      (image_names (λ y. is_variable model y ≡ false) new e (names_then (λ x. (has_quotes (new x) ≡ false) × (is_variable model (new x) ≡ false)) (λ x. is_variable model (new x) ≡ false) (λ x q. q.1) e both)))

  fixed_image : (r : Role) (e : Expression) → AreDeclared e → jani.constant_faults (global_thing file) r e ≡ [] → IsFixed model r (image new e)
  fixed_image state e d h = tt
  fixed_image steps e d h = constant_image e d (no_fault (some_name (jani.varies (global_thing file)) e) (offset_of e) NotConstant h)
  fixed_image probability e d h = constant_image e d (no_fault (some_name (jani.varies (global_thing file)) e) (offset_of e) NotConstant h)

  sound_image : (r : Role) (e : Expression) → IsRight (r, e) → IsSound model r (image new e)
  sound_image r e h =
      let d = are_declared e h.1 (has_meanings file (r, e) h.0) in
      let wrong = jani_types.type_faults_of (jani.name_types (global_thing file)) (wanted_of r) e in
      record {
        known =
            named_none (λ y. not (is_known model y)) (image new e)
            (image_names (λ y. not (is_known model y) ≡ false) new e
            (names_then (λ x. IsDeclared file checked (new x) (jani.meaning (global_thing file) x)) (λ x. not (is_known model (new x)) ≡ false) (λ x i. ap not i.known) e d));
        typed =
            image_has_type new (jani.name_types (global_thing file)) (name_types model) (role_type r) e (typed_jani r e (append_left wrong (jani.constant_faults (global_thing file) r e) h.0))
            (names_then (λ x. IsDeclared file checked (new x) (jani.meaning (global_thing file) x)) (λ x. name_types model (new x) ≡ jani.name_types (global_thing file) x) (λ x i. i.typed) e d);
        fixed = fixed_image r e d (append_right wrong (jani.constant_faults (global_thing file) r e) h.0);
      }

  -- ---- as they are written, against any tree of the model
  module _ (written : prism.File) (same : bare_file written ≡ bare_file model) where
    carried : (r : Role) (e : Expression) (x : prism.Expression) → SameExpression (translated_expression file e) x → IsRight (r, e) → HasNone written (r, x)
    carried r e x b h =
        has_none written r x
        (sound_same written model same r x (image new e) (b ∙ ap bare (renamed_image plain_name (new_property_name file (new_names file)) e)) (sound_image r e h))

    pub ask_carried : (rewards : List Name) (a : Ask Expression ℕ) (b : Ask prism.Expression Structure) → SameAsk SameExpression (with_names rewards (ask_with (translated_expression file) (λ i. i) a)) (names_written b) →
        Each IsRight (ask_parts a) → Each (HasNone written) (ask_parts b)
    ask_carried rewards a greatest h n = tt
    ask_carried rewards a least h n = tt
    ask_carried rewards a (greatest_reward s) h n = tt
    ask_carried rewards a (least_reward s) h n = tt
    ask_carried rewards greatest (bounded d x) h n = absurd h
    ask_carried rewards least (bounded d x) h n = absurd h
    ask_carried rewards (bounded c e) (bounded d x) h n = (carried probability e x h.1 n.0, tt)
    ask_carried rewards (greatest_reward r) (bounded d x) h n = absurd h
    ask_carried rewards (least_reward r) (bounded d x) h n = absurd h

    pub path_carried : (p : Path Expression) (q : Path prism.Expression) → SamePath SameExpression (path_with (translated_expression file) p) q → Each IsRight (path_parts p) → Each (HasNone written) (path_parts q)
    path_carried (finally e) (finally x) h n = (carried state e x h n.0, tt)
    path_carried (finally e) (globally x) h n = absurd h
    path_carried (finally e) (until x y) h n = absurd h
    path_carried (finally e) (weak_until x y) h n = absurd h
    path_carried (finally e) (finally_within u x) h n = absurd h
    path_carried (finally e) (until_within u x y) h n = absurd h
    path_carried (globally e) (finally x) h n = absurd h
    path_carried (globally e) (globally x) h n = (carried state e x h n.0, tt)
    path_carried (globally e) (until x y) h n = absurd h
    path_carried (globally e) (weak_until x y) h n = absurd h
    path_carried (globally e) (finally_within u x) h n = absurd h
    path_carried (globally e) (until_within u x y) h n = absurd h
    path_carried (until a b) (finally x) h n = absurd h
    path_carried (until a b) (globally x) h n = absurd h
    path_carried (until a b) (until x y) h n = (carried state a x h.0 n.0, (carried state b y h.1 n.1.0, tt))
    path_carried (until a b) (weak_until x y) h n = absurd h
    path_carried (until a b) (finally_within u x) h n = absurd h
    path_carried (until a b) (until_within u x y) h n = absurd h
    path_carried (weak_until a b) (finally x) h n = absurd h
    path_carried (weak_until a b) (globally x) h n = absurd h
    path_carried (weak_until a b) (until x y) h n = absurd h
    path_carried (weak_until a b) (weak_until x y) h n = (carried state a x h.0 n.0, (carried state b y h.1 n.1.0, tt))
    path_carried (weak_until a b) (finally_within u x) h n = absurd h
    path_carried (weak_until a b) (until_within u x y) h n = absurd h
    path_carried (finally_within k e) (finally x) h n = absurd h
    path_carried (finally_within k e) (globally x) h n = absurd h
    path_carried (finally_within k e) (until x y) h n = absurd h
    path_carried (finally_within k e) (weak_until x y) h n = absurd h
    path_carried (finally_within k e) (finally_within u x) h n = (carried steps k u h.0 n.0, (carried state e x h.1 n.1.0, tt))
    path_carried (finally_within k e) (until_within u x y) h n = absurd h
    path_carried (until_within k a b) (finally x) h n = absurd h
    path_carried (until_within k a b) (globally x) h n = absurd h
    path_carried (until_within k a b) (until x y) h n = absurd h
    path_carried (until_within k a b) (weak_until x y) h n = absurd h
    path_carried (until_within k a b) (finally_within u x) h n = absurd h
    path_carried (until_within k a b) (until_within u x y) h n = (carried steps k u h.0 n.0, (carried state a x h.1 n.1.0, (carried state b y h.2 n.1.1.0, tt)))
