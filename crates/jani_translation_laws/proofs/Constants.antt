-- Constants have values of their types, to whatever depth they are looked up; so the expressions of constants, bounds and first
-- values are sound.
use Rattle.std.specs.Prelude.{◌≡◌, ℕ, zero, suc, true, length, Option, Some, None, IfSome}
use Rattle.std.specs.Option.{option_map, option_or}
use Rattle.std.proofs.Common.{refl, sym, ap, subst, ◌∙◌}
use Rattle.std.proofs.lemmas.List.Elements.{recursion_from_All}
use Rattle.basics.specs.Texts.{bytes_eq-true}
use Rattle.basics.specs.Each.{each_with}
use Rattle.op_trees.specs.declared.tree.Ty.{Ty}
use Rattle.op_trees.specs.declared.tree.Ty.TheVariants as T
use Rattle.op_trees.specs.declared.tree.Value.{Value}
use Rattle.op_trees.specs.Types.{AgreesWith}
use Rattle.op_trees.specs.Seen.{known}
use Rattle.process_core.specs.Ready.{Name}
use Rattle.prism_tree.specs.Syntax as prism
use Rattle.op_trees.specs.Names.{is_called}
use Rattle.process_core.specs.Instance.{Valuation}
use Rattle.prism_flat.specs.Scene.{constant_called, constant_seen, constant_value, constant_within, constant}
use Rattle.std.specs.List.{AllByRecursion as Each}
use Rattle.basics.specs.Options.{IfAny}
use Rattle.prism_print.specs.Printable.{IsPrintableConst, IsPrintableExpression}
use Rattle.prism_check.specs.Demands.{var_type}
use Rattle.prism_check.specs.TypeFaults as source
use Rattle.prism_check.specs.TypeFaults.{types}
use Rattle.prism_check.specs.Flattened.{IsFlat}
use Rattle.jani_translation.specs.Asks.{variables}
use Rattle.jani_translation.specs.SeenLaws.{SoundRange, SoundVariable, SoundConstant, IsSoundUnder}
use Rattle.jani_translation.proofs.Written.{given_reading}
use Rattle.jani_translation.proofs.Clean.{values_distinct}
use Rattle.prism_check.proofs.Typed.{types_declared}
use Rattle.jani_translation_laws.proofs.Expressions.{IsFixed}
use Rattle.jani_translation_laws.proofs.Sources.{IsFineConst, IsFineRange, IsFineVar, consts_fine, variables_fine}
use Rattle.jani_translation_laws.specs.MeaningLaws.{GivesTyped, FlatIsSound}
use Rattle.jani_translation_laws.proofs.Agreeing.{all_then, found, undefined, AreTyped, sound, sound_some, value_typed}

module _ (file : prism.File) (flat : IsFlat file) (v : Valuation) (gives : GivesTyped file v) where
  -- what each constant has
  abbrev IsGood : prism.Const → Type 0
  IsGood c = (c.value ≡ None → AgreesWith (Some c.ty) (v c.name.name)) × IsPrintableConst c × IsFineConst file flat c

  good : Each IsGood file.constants
  good =
      each_with (λ c. c.value ≡ None → AgreesWith (Some c.ty) (v c.name.name)) (λ c. IsPrintableConst c × IsFineConst file flat c) IsGood (λ c p q. (p, q.0, q.1)) file.constants
      (recursion_from_All (λ c. c.value ≡ None → AgreesWith (Some c.ty) (v c.name.name)) file.constants gives)
      (each_with IsPrintableConst (IsFineConst file flat) (λ c. IsPrintableConst c × IsFineConst file flat c) (λ c p q. (p, q)) file.constants
      flat.checked.form.constants (consts_fine file flat))

  seen_typed : (env : Name → Option Value) → AreTyped file flat env → (t : Ty) (g : Option Value) (o : Option prism.Expression) → (o ≡ None → AgreesWith (Some t) g) →
      IfAny IsPrintableExpression o → IfAny (IsFixed file flat t) o → AgreesWith (Some t) (constant_seen g (λ x. known (env x)) o).value
  seen_typed env a t g None h p q = h refl
  seen_typed env a t g (Some e) h p q = value_typed file flat env a t e p q.0

  type_is : (x : Name) (c : prism.Const) → constant_called file x ≡ Some c → Some c.ty ≡ types file x
  type_is x c e =
      sym (types_declared file flat x ∙ ap (λ o. option_or (option_map (λ c. c.ty) o) (option_map (λ v. v.ty) (source.variable_called file x))) e)

  called_typed : (env : Name → Option Value) → AreTyped file flat env → (x : Name) (o : Option prism.Const) → constant_called file x ≡ o →
      AgreesWith (types file x) (constant_value (v x) (λ y. known (env y)) o)
  called_typed env a x None e = undefined (types file x)
  called_typed env a x (Some c) e =
      let f = subst (IfAny (λ c. IsGood c × (is_called x c.name ≡ true))) e (found IsGood (λ c. is_called x c.name) file.constants good) in
      let given = subst (λ y. c.value ≡ None → AgreesWith (Some c.ty) (v y)) (bytes_eq-true c.name.name x f.1) f.0.0 in
      subst (λ t. AgreesWith t (constant_seen (v x) (λ y. known (env y)) c.value).value) (type_is x c e)
      (seen_typed env a c.ty (v x) c.value given f.0.1.1 f.0.2)

  pub within_typed : (n : ℕ) → AreTyped file flat (constant_within file v n)
  within_typed zero x = undefined (types file x)
  within_typed (suc n) x =
      subst (λ r. AgreesWith (types file x) (constant_value (v x) r (constant_called file x)))
      (sym (given_reading file (λ y. known (constant_within file v n y)) flat.form.formulas))
      (called_typed (constant_within file v n) (within_typed n) x (constant_called file x) refl)

  pub constant_typed : AreTyped file flat (constant file v)
  constant_typed = within_typed (length file.constants)

  -- ---- what is asked
  constant_sound : (c : prism.Const) → IsFineConst file flat c → SoundConstant file v c
  constant_sound c h n = sound_some file flat (constant_within file v n) (within_typed n) c.ty c.value h

  range_sound : (r : Option prism.Range) → IsFineRange file flat r → IfSome r (SoundRange file v)
  range_sound None h = tt
  range_sound (Some r) h = (
    sound file flat (constant file v) constant_typed T.Int r.low h.0.0,
    sound file flat (constant file v) constant_typed T.Int r.high h.1.0,
  )

  variable_sound : (x : prism.Var) → IsFineVar file flat x → SoundVariable file v x
  variable_sound x h = (range_sound x.range h.0, sound_some file flat (constant file v) constant_typed (var_type x) x.start h.1)

  pub sound_under : IsSoundUnder file v
  sound_under = record {
    written = flat.form;
    distinct = values_distinct file flat;
    constants = all_then (IsFineConst file flat) (SoundConstant file v) constant_sound file.constants (consts_fine file flat);
    variables = all_then (IsFineVar file flat) (SoundVariable file v) variable_sound (variables file) (variables_fine file flat);
  }

pub flat_is_sound : (file : prism.File) → FlatIsSound file
flat_is_sound file flat v gives = sound_under file flat v gives
