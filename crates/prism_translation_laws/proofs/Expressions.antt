-- The images of a file's expressions, and the expressions that are made, have the types that are wanted.
use Rattle.std.specs.Prelude.{◌≡◌, ◌⊎◌, ◌<◌, ℕ, List, [], ◌∷◌, length, Bool, true, false, not, Option, Some, None, IsTrue, is_some, get_or, unwrap_or}
use Rattle.std.specs.List.{fold, position, All, AllByRecursion as Each}
use Rattle.std.specs.Option.{option_map, option_or, option_or as or_else}
use Rattle.std.proofs.Common.{refl, sym, ap, ap₂, ◌∙◌, subst, inl, inr}
use Rattle.std.proofs.lemmas.List.Elements.{All-filter, filter_passes}
use Rattle.std.proofs.lemmas.List.Quantifiers.{position-Some}
use Rattle.basics.specs.Lists.{append_both}
use Rattle.bridge_io.specs.declared.reason.Reason.TheVariants.{NotConstant}
use Rattle.op_trees.specs.declared.tree.Ty.{Ty}
use Rattle.op_trees.specs.declared.tree.Ty.TheVariants as T
use Rattle.op_trees.specs.Tree.{Two}
use Rattle.op_trees.specs.SeenLaws.{names_then}
use Rattle.op_trees.specs.Types as trees
use Rattle.op_trees.specs.Types.{type_in}
use Rattle.op_trees.specs.Names.{offset_of, is_called}
use Rattle.op_trees.specs.NameLaws.{names_with, named_none}
use Rattle.op_trees.specs.TypeLaws.{names_typed}
use Rattle.op_trees.specs.Wanted.{is_wanted, wanted_by}
use Rattle.process_core.specs.Ready.{Name}
use Rattle.prism_tree.specs.declared.operator.PrismOp.TheVariants.{And, Equal}
use Rattle.prism_tree.specs.Operators.{prism_meaning}
use Rattle.prism_tree.specs.Syntax as prism
use Rattle.name_rules.specs.Least.{fault_if}
use Rattle.prism_check.specs.Demands.{fixed, varying, type_by, var_type}
use Rattle.prism_check.specs.TypeFaults.{types, variable_called, is_variable, type_faults_of, demand_faults}
use Rattle.jani_table.specs.Operators.{jani_meaning}
use Rattle.jani_tree.specs.Syntax.{Const, Var, VarKind, boolean, integer, number, real_bounded, one_sided, bounded, Expression, File}
use Rattle.jani_check.specs.Things as things
use Rattle.jani_check.specs.Things.{kind_type, const_thing, var_thing, const_called, var_called, global_thing, beside, thing_type, is_constant}
use Rattle.jani_check.specs.TypeFaults.{kind_fault}
use Rattle.jani_check.specs.Faults.{IsChecked}
use Rattle.jani_meaning.specs.Elements as jani
use Rattle.jani_meaning.specs.Elements.{Owned, lasting, is_lasting}
use Rattle.prism_translation.specs.PrismAsks.{NewNames, name_at, value_name}
use Rattle.prism_translation.specs.Image.{image}
use Rattle.prism_translation.specs.Elements.{Element, elements, has_several}
use Rattle.prism_translation.specs.Names.{new_names}
use Rattle.prism_translation.specs.Parts.{counted, range_of, scope_of, variable, is_there}
use Rattle.prism_translation.specs.Modules.{all_of}
use Rattle.prism_translation.specs.Translated.{translated}
use Rattle.prism_translation_laws.specs.TypeLaws.{own_variables, types_in, is_constant_in, is_transient_in, NamesTypedAlike, ConstantsStayConstant}
use Rattle.prism_translation_laws.proofs.TypedImages.{HasPrismType, is_typed, image_has_type, image_names, no_type_faults}
use Rattle.prism_translation.proofs.Clean.{has_element}
use Rattle.prism_translation_laws.proofs.TypedScopes.{nobody, no_constant, const_of, one_or_other, placed_at, constant_known, variable_known}
use Rattle.prism_translation_laws.proofs.Sources.{types_beside, IsFine, IsFixed, IsFineOwned, variables_fine}
use Rattle.prism_translation_laws.proofs.Declared.{lasting_at, owned_of, constant_type, constant_no_variable, variable_type, location_type}

-- a constant is one wherever it is named
constant_anywhere : (c : Option Const) (v w u : Option Var) → is_constant (or_else (or_else (option_map const_thing c) (option_map var_thing v)) (option_map var_thing w)) ≡ true →
    (is_constant (or_else (or_else (option_map const_thing c) (option_map var_thing v)) (option_map var_thing u)) ≡ true)
    × (option_map thing_type (or_else (or_else (option_map const_thing c) (option_map var_thing v)) (option_map var_thing u))
    ≡ option_map thing_type (or_else (or_else (option_map const_thing c) (option_map var_thing v)) (option_map var_thing w)))
constant_anywhere c v w u h = by_const c (const_of c v w h).0 (const_of c v w h).1
  where
    by_const : (o : Option Const) (d : Const) → o ≡ Some d →
        (is_constant (or_else (or_else (option_map const_thing o) (option_map var_thing v)) (option_map var_thing u)) ≡ true)
        × (option_map thing_type (or_else (or_else (option_map const_thing o) (option_map var_thing v)) (option_map var_thing u))
        ≡ option_map thing_type (or_else (or_else (option_map const_thing o) (option_map var_thing v)) (option_map var_thing w)))
    by_const None d e = absurd cc
    by_const (Some b) d e = (refl, refl)

-- a variable keeps its type, if its kind is one that it may have
pub kind_kept : (file : File) (names : NewNames) (new : Name → Name) (b : Bool) (k : VarKind) → b ≡ false → kind_fault b k ≡ None → type_by (range_of file names new k) ≡ kind_type k
kind_kept file names new true k e h = absurd cc
kind_kept file names new false boolean e h = refl
kind_kept file names new false integer e h = absurd cc
kind_kept file names new false number e h = absurd cc
kind_kept file names new false real_bounded e h = absurd cc
kind_kept file names new false one_sided e h = absurd cc
kind_kept file names new false (bounded low high) e h = refl

module _ (file : File) (checked : IsChecked file) where
  abbrev names : NewNames
  names = new_names file

  -- ---- what names become
  constant_kept : (k : ℕ) (x : Name) → is_constant_in file k x ≡ true →
      (types (translated file) (value_name file names k x) ≡ types_in file k x) × (is_variable (translated file) (value_name file names k x) ≡ false)
  constant_kept k x h =
      let q = constant_known file checked k x h in
      let i = q.known.number in
      let named : value_name file names k x ≡ name_at names.constants i =
      ap₂ (λ a b. unwrap_or (option_or (option_map (name_at names.variables) a) (option_map (name_at names.constants) b)) []) q.known.no_variable q.known.stands_there in
      let within : i < length file.constants = (position-Some (λ d. is_called x d.name) file.constants i no_constant q.known.stands_there).0 in (
        ap (types (translated file)) named ∙ constant_type file i within ∙ sym q.typed,
        ap is_some (ap (variable_called (translated file)) named ∙ constant_no_variable file i within),
      )

  -- a variable of this number has the type of its kind
  pub kind_is : (i : ℕ) → i < length (lasting file) → var_type (variable file names (lasting_at file i)) ≡ kind_type (get_or (lasting file) i nobody).var.kind
  kind_is i l =
      let fine = All-filter is_lasting (IsFineOwned file checked) (jani.variables file) (variables_fine file checked) i nobody l in
      let lasts = filter_passes is_lasting (jani.variables file) i nobody l in
      ap (λ (o : Owned). type_by (range_of file names (value_name file names (scope_of file names o)) o.var.kind)) (owned_of file i l)
      ∙ kind_kept file names (value_name file names (scope_of file names (get_or (lasting file) i nobody))) (get_or (lasting file) i nobody).var.transient (get_or (lasting file) i nobody).var.kind (not_true (get_or (lasting file) i nobody).var.transient lasts) fine.0
    where
      not_true : (b : Bool) → not b ≡ true → b ≡ false
      not_true true h = absurd cc
      not_true false h = refl

  variable_kept : (k : ℕ) (x : Name) → things.is_lasting (beside (global_thing file) (own_variables file k) x) ≡ true →
      types (translated file) (value_name file names k x) ≡ types_in file k x
  variable_kept k x h =
      let q = variable_known file checked k x h in
      let within = (placed_at (lasting file) k x q.number q.stands_there).within in
      ap (types (translated file))
      (ap (λ a. unwrap_or (option_or (option_map (name_at names.variables) a) (option_map (name_at names.constants) (position (λ d. is_called x d.name) file.constants))) []) q.stands_there)
      ∙ variable_type file (has_element file checked) q.number within ∙ ap Some (kind_is q.number within) ∙ sym q.typed

  name_kept : (k : ℕ) (x : Name) → is_transient_in file k x ≡ false → IsTrue (is_some (types_in file k x)) → types (translated file) (value_name file names k x) ≡ types_in file k x
  name_kept k x h s = by_kind (one_or_other (const_called file x) (var_called file.variables x) (var_called (own_variables file k) x) h s)
    where
      by_kind : (is_constant_in file k x ≡ true) ⊎ (things.is_lasting (beside (global_thing file) (own_variables file k) x) ≡ true) → types (translated file) (value_name file names k x) ≡ types_in file k x
      by_kind (inl e) = (constant_kept k x e).0
      by_kind (inr e) = variable_kept k x e

  -- ---- images
  pub fine_image : (k : ℕ) (w : Ty) (e : Expression) → IsFine file (own_variables file k) w e → HasPrismType (types (translated file)) w (image (value_name file names k) e)
  fine_image k w e h =
      image_has_type (value_name file names k) (types_in file k) (types (translated file)) w e h.0
      (names_with (λ x. is_transient_in file k x ≡ false) (λ x. IsTrue (is_some (types_in file k x))) (λ x. types (translated file) (value_name file names k x) ≡ types_in file k x) (name_kept k) e h.1
      (names_typed jani_meaning (types_in file k) e (is_typed (types_in file k) w e h.0)))

  anywhere : (vs : List Var) (k : ℕ) (x : Name) → is_constant (beside (global_thing file) vs x) ≡ true → (is_constant_in file k x ≡ true) × (types_in file k x ≡ types_beside file vs x)
  anywhere vs k x h = constant_anywhere (const_called file x) (var_called file.variables x) (var_called vs x) (var_called (own_variables file k) x) h

  pub fixed_image : (vs : List Var) (k : ℕ) (w : Ty) (e : Expression) → IsFixed file vs w e → HasPrismType (types (translated file)) w (image (value_name file names k) e)
  fixed_image vs k w e h =
      image_has_type (value_name file names k) (types_beside file vs) (types (translated file)) w e h.0
      (names_then (λ x. is_constant (beside (global_thing file) vs x) ≡ true) (λ x. types (translated file) (value_name file names k x) ≡ types_beside file vs x)
      (λ x c. let r = anywhere vs k x c in (constant_kept k x r.0).0 ∙ r.1) e h.1)

  -- ---- demands
  pub varying_clean : (i : ℕ) (w : Ty) (e : prism.Expression) → HasPrismType (types (translated file)) w e → demand_faults (translated file) i (varying (wanted_by w) e) ≡ []
  varying_clean i w e h = no_type_faults (types (translated file)) w e h

  pub fixed_clean : (i : ℕ) (vs : List Var) (k : ℕ) (w : Ty) (e : Expression) → IsFixed file vs w e → demand_faults (translated file) i (fixed (wanted_by w) (image (value_name file names k) e)) ≡ []
  fixed_clean i vs k w e h =
      let new = image (value_name file names k) e in
      append_both (type_faults_of (types (translated file)) (wanted_by w) new) _ (no_type_faults (types (translated file)) w new (fixed_image vs k w e h))
      (ap (λ b. fault_if b (offset_of new) NotConstant)
      (named_none (is_variable (translated file)) new
      (image_names (λ y. is_variable (translated file) y ≡ false) (value_name file names k) e
      (names_then (λ x. is_constant (beside (global_thing file) vs x) ≡ true) (λ x. is_variable (translated file) (value_name file names k x) ≡ false)
      (λ x c. (constant_kept k x (anywhere vs k x c).0).1) e h.1))))

  -- ---- expressions that are made
  abbrev pub IsTruth : prism.Expression → Type 0
  IsTruth e = type_in prism_meaning (types (translated file)) e ≡ Some T.Bool

  pub counted_number : (n : ℕ) → HasPrismType (types (translated file)) T.Real (counted n)
  counted_number n = record { type = T.Int; is = refl; wanted = refl }

  pub has_truth : (e : prism.Expression) → IsTruth e → HasPrismType (types (translated file)) T.Bool e
  has_truth e h = record { type = T.Bool; is = h; wanted = refl }

  pub as_truth : (e : prism.Expression) → HasPrismType (types (translated file)) T.Bool e → IsTruth e
  as_truth e h = h.is ∙ ap Some (bool h.type h.wanted)
    where
      bool : (t : Ty) → is_wanted (wanted_by T.Bool) t ≡ true → t ≡ T.Bool
      bool T.Bool k = refl
      bool T.Int k = absurd cc
      bool T.Real k = absurd cc

  -- that an element is at a location of several
  pub there_truth : All (λ (el : Element). has_several el ≡ true → (i : ℕ) → IsTruth (is_there file names el.number i)) (elements file)
  there_truth i d l h n = ap (λ t. trees.sort_two prism_meaning Equal t (Some T.Int)) (location_type file i d l h)

  joined_truth : (e : prism.Expression) (es : List prism.Expression) → IsTruth e → Each IsTruth es → IsTruth (fold (λ a b. Two 0 And a b) e es)
  joined_truth e [] h k = h
  joined_truth e (a ∷ es) h k = joined_truth (Two 0 And e a) es (ap₂ (trees.sort_two prism_meaning And) h k.0) k.1

  pub all_truth : (es : List prism.Expression) → Each IsTruth es → IsTruth (all_of es)
  all_truth [] h = refl
  all_truth (e ∷ es) h = joined_truth e es h.0 h.1

-- ---- the statements
pub names_typed_alike : (file : File) → NamesTypedAlike file
names_typed_alike file checked k x t h n = name_kept file checked k x n (subst (λ o. IsTrue (is_some o)) (sym h) refl) ∙ h

pub constants_stay_constant : (file : File) → ConstantsStayConstant file
constants_stay_constant file checked k x h = (constant_kept file checked k x h).1
