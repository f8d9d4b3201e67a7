-- Images of expressions without faults have none.
use Rattle.std.specs.Prelude.{◌≡◌, ℕ, [], map, Bool, true, false, not, ◌||◌, Some, IsTrue, is_some}
use Rattle.std.proofs.Common.{refl, sym, ap, ap₂, subst, ◌∙◌}
use Rattle.basics.specs.Lists.{append_both}
use Rattle.bridge_io.specs.declared.reason.Reason.TheVariants.{WrongType, NotConstant}
use Rattle.op_trees.specs.declared.tree.Ty.{Ty}
use Rattle.op_trees.specs.Tree.{Tree, Truth, Number, Name as At, One, Two, Three, AllNames}
use Rattle.op_trees.specs.SeenLaws.{names_then, names_all}
use Rattle.op_trees.specs.Types as trees
use Rattle.op_trees.specs.Types.{type_in}
use Rattle.op_trees.specs.TypeLaws.{misfits_none}
use Rattle.op_trees.specs.Names.{offset_of, some_name}
use Rattle.op_trees.specs.NameLaws.{none_named}
use Rattle.process_core.specs.Ready.{Name}
use Rattle.prism_tree.specs.declared.operator.PrismOp.{PrismOp}
use Rattle.prism_tree.specs.declared.operator.PrismOp.TheVariants as P
use Rattle.prism_tree.specs.Operators.{prism_meaning}
use Rattle.prism_tree.specs.Syntax as prism
use Rattle.prism_check.specs.TypeFaults as source
use Rattle.prism_check.specs.TypeFaults.{types}
use Rattle.prism_check.proofs.CleanTypes.{IsFree, free_whole}
use Rattle.prism_check.specs.Flattened.{IsFlat}
use Rattle.jani_table.specs.declared.operator.JaniOp.{JaniOp}
use Rattle.jani_table.specs.Operators.{jani_meaning}
use Rattle.name_rules.specs.Least.{fault, fault_if}
use Rattle.jani_check.specs.Things.{global_thing, types_by}
use Rattle.jani_check.specs.Demands.{fixed}
use Rattle.op_trees.specs.Wanted.{is_wanted, is_unwanted, wanted_by}
use Rattle.jani_check.specs.TypeFaults.{is_variable, has_variable, type_faults_of, demand_faults}
use Rattle.prism_images.specs.Image.{image, image_one}
use Rattle.prism_images.proofs.Types.{typed_alike}
use Rattle.jani_translation.specs.Asks.{new_names}
use Rattle.jani_translation.specs.Translated.{translated}
use Rattle.prism_check.proofs.Typed.{HasType, no_formula}
use Rattle.jani_translation_laws.proofs.Alike as names

-- ---- no name of an image is such a one
one_none : (p : Name → Bool) (at : ℕ) (o : PrismOp) (a : Tree JaniOp) → some_name p a ≡ false → some_name p (image_one at o a) ≡ false
one_none p at P.Neg a h = h
one_none p at o a h = h

pub none_image : (p : Name → Bool) (new : Name → Name) (e : prism.Expression) → AllNames (λ x. p (new x) ≡ false) e → some_name p (image new e) ≡ false
none_image p new (Truth at b) h = refl
none_image p new (Number at d) h = refl
none_image p new (At at x) h = h
none_image p new (One at o a) h = one_none p at o (image new a) (none_image p new a h)
none_image p new (Two at o a b) h = ap₂ (λ s t. s || t) (none_image p new a h.0) (none_image p new b h.1)
none_image p new (Three at o a b c) h =
    ap₂ (λ s t. s || t) (none_image p new a h.0) (ap₂ (λ s t. s || t) (none_image p new b h.1) (none_image p new c h.2))

module _ (file : prism.File) (flat : IsFlat file) where
  -- ---- types
  pub image_type : (e : prism.Expression) (t : Ty) → type_in prism_meaning (types file) e ≡ Some t →
      type_in jani_meaning (types_by (global_thing (translated file))) (image (new_names file).value e) ≡ Some t
  image_type e t h =
      typed_alike (new_names file).value (types file) (types_by (global_thing (translated file))) e t
      (names_all (λ x. types_by (global_thing (translated file)) ((new_names file).value x) ≡ types file x) (names.typed_alike file flat) e) h

  -- a JANI expression that has a type which is wanted has no fault
  pub no_faults_of : (w t : Ty) (e : Tree JaniOp) → type_in jani_meaning (types_by (global_thing (translated file))) e ≡ Some t → is_wanted (wanted_by w) t ≡ true →
      type_faults_of (types_by (global_thing (translated file))) (wanted_by w) e ≡ []
  no_faults_of w t e h k =
      let types = types_by (global_thing (translated file)) in
      append_both (map (λ at. fault at WrongType) (trees.misfits jani_meaning types e)) _
      (ap (map (λ at. fault at WrongType)) ((misfits_none jani_meaning types e).1 (subst (λ o. IsTrue (is_some o)) (sym h) refl)))
      (ap (λ b. fault_if b (offset_of e) WrongType) (ap (is_unwanted (wanted_by w)) h ∙ ap not k))

  pub image_fits : (w : Ty) (e : prism.Expression) → HasType file w e → type_faults_of (types_by (global_thing (translated file))) (wanted_by w) (image (new_names file).value e) ≡ []
  image_fits w e h = no_faults_of w h.ty (image (new_names file).value e) (image_type e h.ty h.is) h.wanted

  -- ---- no variable is named
  pub image_constant : (e : prism.Expression) → source.has_variable file e ≡ false → has_variable (global_thing (translated file)) (image (new_names file).value e) ≡ false
  image_constant e h =
      let free = names_all (IsFree file) (no_formula file flat) e in
      none_image (λ x. is_variable (global_thing (translated file) x)) (new_names file).value e
      (names_then (λ x. source.is_variable file x ≡ false) (λ x. is_variable (global_thing (translated file) ((new_names file).value x)) ≡ false) (names.stays file flat) e
      (none_named (source.is_variable file) e (ap (some_name (source.is_variable file)) (sym (free_whole file e free)) ∙ h)))

  -- ---- what the file's own judgement says of an expression
  abbrev pub IsFixed : Ty → prism.Expression → Type 0
  IsFixed w e = HasType file w e × (source.has_variable file e ≡ false)

  pub fixed_clean : (w : Ty) (e : prism.Expression) → IsFixed w e → demand_faults (global_thing (translated file)) (fixed (wanted_by w) (image (new_names file).value e)) ≡ []
  fixed_clean w e h =
      append_both (type_faults_of (types_by (global_thing (translated file))) (wanted_by w) (image (new_names file).value e)) _ (image_fits w e h.0)
      (ap (λ b. fault_if b (offset_of (image (new_names file).value e)) NotConstant) (image_constant e h.1))
