-- The translated expressions of properties have no fault of names and of types in the translated model, and none of shape but those of names.
use Rattle.std.proofs.Common.{◌≡◌, refl, sym, ap, subst, ◌∙◌, Bool, true, false, not, List, [], map, length, Option, Some, is_some}
use Rattle.std.specs.Prelude.{IsTrue}
use Rattle.std.specs.List.{AllByRecursion as Each}
use Rattle.std.proofs.lemmas.Bool.{or_parts}
use Rattle.basics.specs.Each.{each_then, each_empty}
use Rattle.basics.specs.Lists.{append_parts, append_both}
use Rattle.basics.specs.Options.{has_some}
use Rattle.bridge_io.specs.declared.reason.Named.{Named}
use Rattle.bridge_io.specs.declared.reason.Reason.{Reason}
use Rattle.bridge_io.specs.declared.reason.Reason.TheVariants.{Unknown, WrongType, NotConstant}
use Rattle.op_trees.specs.declared.tree.Ty.{Ty}
use Rattle.op_trees.specs.Tree.{Tree, Truth, Number, Name as At, One, Two, Three, AllNames, bare, renamed}
use Rattle.op_trees.specs.Names.{names_of, offset_of, some_name}
use Rattle.op_trees.specs.NameLaws.{names_renamed, names_with, none_named, some_name-bare}
use Rattle.op_trees.specs.SeenLaws.{names_then}
use Rattle.op_trees.specs.Types.{misfits, type_in}
use Rattle.op_trees.specs.TypeLaws.{misfits_none, names_typed, type_agree, type-bare, type-renamed}
use Rattle.op_trees.specs.Wanted.{is_unwanted}
use Rattle.name_rules.specs.Least.{fault}
use Rattle.name_rules.specs.Unknown.{unless_known}
use Rattle.name_rules.proofs.Plain.{no_fault, fault_none}
use Rattle.prism_tree.specs.Operators.{prism_meaning}
use Rattle.prism_tree.specs.Syntax as prism
use Rattle.prism_tree.specs.Syntax.{File}
use Rattle.prism_names.specs.Flat.{flat}
use Rattle.prism_names.specs.Names.{formula_body}
use Rattle.prism_names.specs.Order as plain
use Rattle.prism_check.specs.Flattened.{IsFlat}
use Rattle.prism_check.specs.TypeFaults.{is_variable, has_variable}
use Rattle.prism_check.proofs.NamesIn.{names_listed, names_written_out}
use Rattle.jani_check.specs.declared.things.Thing.{Thing}
use Rattle.jani_check.specs.TypeFaults as judged
use Rattle.jani_table.specs.Operators.{jani_meaning}
use Rattle.jani_tree.specs.Syntax.{Expression}
use Rattle.name_table.specs.Asks.{entries}
use Rattle.prism_images.specs.Laws.{TypedImageSeenAlike, AgreeingIsNoNumber, ImageHasOperands}
use Rattle.prism_images.proofs.Types.{typed_alike}
use Rattle.jani_translation_laws.proofs.Expressions.{none_image}
use Rattle.prop_grammar.specs.Grammar.{has_quotes}
use Rattle.prop_trees.specs.Trees.{Name, Role, state, steps, probability}
use Rattle.prop_trees.specs.Names.{meant, filed_name}
use Rattle.prop_trees.specs.PrismFaults as source
use Rattle.prop_trees.specs.PrismFaults.{is_known, name_types, unknown_in, part_faults, varies, wanted_of}
use Rattle.jani_props.specs.Faults as jani
use Rattle.prop_to_jani.specs.ToJani.{whole, new_property_name, translated_expression}
use Rattle.prop_to_jani.proofs.Judged.{IsJudged, IsPlain}
use Rattle.prop_to_jani.proofs.Filed.{whole_filed, whole_typed, meant_type, filed_type}
use Rattle.prop_to_jani.proofs.Agreeing.{IsFine, IsLeft, fine, names_left}
use Rattle.prop_to_jani.proofs.Valued.{image_names, spellable}
use Rattle.prop_to_jani.proofs.Shaped.{NameSuch, MeantSuch, ExpressionSuch}
use Rattle.prop_to_jani.proofs.Standing.{things, new, StandsFor, stands_for, name_such}
use Rattle.prop_to_jani.proofs.Roles.{part_with}

-- ---- what holds whatever the places

pub bare_names : {O : Type 0} (P : Name → Type 0) (t : Tree O) → AllNames P t → AllNames P (bare t)
bare_names P (Truth at b) h = tt
bare_names P (Number at d) h = tt
bare_names P (At at x) h = h
bare_names P (One at o a) h = bare_names P a h
bare_names P (Two at o a b) h = (bare_names P a h.0, bare_names P b h.1)
bare_names P (Three at o a b c) h = (bare_names P a h.0, bare_names P b h.1, bare_names P c h.2)

pub names_bared : {O : Type 0} (P : Name → Type 0) (t : Tree O) → AllNames P (bare t) → AllNames P t
names_bared P (Truth at b) h = tt
names_bared P (Number at d) h = tt
names_bared P (At at x) h = h
names_bared P (One at o a) h = names_bared P a h
names_bared P (Two at o a b) h = (names_bared P a h.0, names_bared P b h.1)
names_bared P (Three at o a b c) h = (names_bared P a h.0, names_bared P b h.1, names_bared P c h.2)

module _ (things : Name → Option Thing) where
  -- a bound names constants alone
  abbrev pub IsConstantFor : Role → Expression → Type 0
  IsConstantFor state e = Unit {0}
  IsConstantFor steps e = some_name (jani.varies things) e ≡ false
  IsConstantFor probability e = some_name (jani.varies things) e ≡ false

  -- a part that has no fault of names and of types
  pub record Fits (x : Role × Expression) : Type 0 where
    pub known : AllNames (λ y. jani.is_known things y ≡ true) x.1
    pub ty : Ty
    pub typed : type_in jani_meaning (jani.name_types things) x.1 ≡ Some ty
    pub wanted : is_unwanted (wanted_of x.0) (Some ty) ≡ false
    pub constant : IsConstantFor x.0 x.1

  constant_bare : (r : Role) (e : Expression) → IsConstantFor r e → IsConstantFor r (bare e)
  constant_bare state e h = tt
  constant_bare steps e h = some_name-bare (jani.varies things) e ∙ h
  constant_bare probability e h = some_name-bare (jani.varies things) e ∙ h

  constant_bared : (r : Role) (e : Expression) → IsConstantFor r (bare e) → IsConstantFor r e
  constant_bared state e h = tt
  constant_bared steps e h = sym (some_name-bare (jani.varies things) e) ∙ h
  constant_bared probability e h = sym (some_name-bare (jani.varies things) e) ∙ h

  pub fits_bare : (x : Role × Expression) → Fits x → Fits (part_with bare x)
  fits_bare x f = record {
    known = bare_names (λ y. jani.is_known things y ≡ true) x.1 f.known;
    ty = f.ty;
    typed = type-bare jani_meaning x.1 (jani.name_types things) ∙ f.typed;
    wanted = f.wanted;
    constant = constant_bare x.0 x.1 f.constant;
  }

  pub fits_bared : (x : Role × Expression) → Fits (part_with bare x) → Fits x
  fits_bared x f = record {
    known = names_bared (λ y. jani.is_known things y ≡ true) x.1 f.known;
    ty = f.ty;
    typed = sym (type-bare jani_meaning x.1 (jani.name_types things)) ∙ f.typed;
    wanted = f.wanted;
    constant = constant_bared x.0 x.1 f.constant;
  }

  -- ---- it has none
  pub none_unknown : (x : Role × Expression) → Fits x → jani.unknown_in things x ≡ []
  none_unknown x f =
      each_empty (unless_known (jani.is_known things)) (names_of x.1)
      (each_then (λ n. jani.is_known things n.name ≡ true) (λ n. unless_known (jani.is_known things) n ≡ [])
      (λ (n : Named) h. fault_none (not (jani.is_known things n.name)) n.at Unknown (ap not h)) (names_of x.1) (names_listed (λ y. jani.is_known things y ≡ true) x.1 f.known))

  none_varying : (r : Role) (e : Expression) → IsConstantFor r e → jani.constant_faults things r e ≡ []
  none_varying state e h = refl
  none_varying steps e h = fault_none (some_name (jani.varies things) e) (offset_of e) NotConstant h
  none_varying probability e h = fault_none (some_name (jani.varies things) e) (offset_of e) NotConstant h

  pub none_wrong : (x : Role × Expression) → Fits x → jani.wrong_in things x ≡ []
  none_wrong x f =
      let types = jani.name_types things in
      append_both (judged.type_faults_of types (wanted_of x.0) x.1) (jani.constant_faults things x.0 x.1)
      (append_both (map (λ at. fault at WrongType) (misfits jani_meaning types x.1)) _
      (ap (map (λ at. fault at WrongType)) ((misfits_none jani_meaning types x.1).1 (subst (λ o. IsTrue (is_some o)) (sym f.typed) refl)))
      (fault_none (is_unwanted (wanted_of x.0) (type_in jani_meaning types x.1)) (offset_of x.1) WrongType (ap (is_unwanted (wanted_of x.0)) f.typed ∙ f.wanted)))
      (none_varying x.0 x.1 f.constant)

-- ---- translated expressions

module _ (file : File) (order : List Name) (is : IsJudged file order) (flat_is : IsFlat (flat file)) (image_seen : TypedImageSeenAlike) (agreeing : AgreeingIsNoNumber) where
  abbrev Fine : prism.Expression → Type 0
  Fine e = IsFine file order is flat_is.form image_seen agreeing e

  abbrev Left : Name → Type 0
  Left x = IsLeft file order is flat_is.form image_seen agreeing x

  abbrev HasType : Name → Type 0
  HasType x = IsTrue (is_some (name_types file x))

  -- a name that is left where formulas are written out: it is known, and has a type
  pub record IsGood (x : Name) : Type 0 where
    pub left : Left x
    pub typed : HasType x

  plain_typed : (e : prism.Expression) → type_in prism_meaning (name_types file) (plain.whole file e) ≡ type_in prism_meaning (name_types file) e
  plain_typed e =
      let old : Name → Option Ty = λ x. meant_type file order is (meant x) in
      sym (ap (type_in prism_meaning old) (whole_filed file order is e)
      ∙ type-renamed prism_meaning filed_name old (plain.whole file e)
      ∙ type_agree prism_meaning (plain.whole file e) (λ x. old (filed_name x)) (name_types file) (filed_type file order is))
      ∙ whole_typed file order is e

  whole_has_types : (e : prism.Expression) → Fine e → AllNames HasType (plain.whole file e)
  whole_has_types e f = names_typed prism_meaning (name_types file) (plain.whole file e) (subst (λ t. IsTrue (is_some t)) (sym (plain_typed e)) f.typed)

  all_good : (e : prism.Expression) → Fine e → AllNames IsGood (plain.whole file e)
  all_good e f =
      names_with Left HasType IsGood (λ x l t. record { left = l; typed = t }) (plain.whole file e) (names_left file order is flat_is.form image_seen agreeing e f) (whole_has_types e f)

  stands : (x : Name) → IsGood x → StandsFor file order is flat_is x (new file order is flat_is x)
  stands x g = stands_for file order is flat_is x g.left.free g.left.known g.typed

  -- what holds of the new name of each such name holds of the names of the translated expression
  pub translated_names : (P : Name → Type 0) → ((x : Name) → IsGood x → P (new file order is flat_is x)) → (e : prism.Expression) → Fine e →
      AllNames P (translated_expression file (renamed filed_name e))
  translated_names P h e f =
      image_names P (new_property_name (flat file)) (whole file (renamed filed_name e))
      (subst (AllNames (λ x. P (new_property_name (flat file) x))) (sym (whole_filed file order is e))
      (names_renamed (λ x. P (new_property_name (flat file) x)) filed_name (plain.whole file e) (names_then IsGood (λ x. P (new file order is flat_is x)) h (plain.whole file e) (all_good e f))))

  -- ---- types
  translated_type : (e : prism.Expression) (t : Ty) → Fine e → type_in prism_meaning (name_types file) e ≡ Some t →
      type_in jani_meaning (jani.name_types (things file order is flat_is)) (translated_expression file (renamed filed_name e)) ≡ Some t
  translated_type e t f h =
      let old : Name → Option Ty = λ x. meant_type file order is (meant x) in
      let types = jani.name_types (things file order is flat_is) in
      typed_alike (new_property_name (flat file)) old types (whole file (renamed filed_name e)) t
      (subst (AllNames (λ x. types (new_property_name (flat file) x) ≡ old x)) (sym (whole_filed file order is e))
      (names_renamed (λ x. types (new_property_name (flat file) x) ≡ old x) filed_name (plain.whole file e)
      (names_then IsGood (λ x. types (new file order is flat_is x) ≡ old (filed_name x)) (λ x g. (stands x g).typed ∙ sym (filed_type file order is x)) (plain.whole file e) (all_good e f))))
      (whole_typed file order is e ∙ h)

  -- ---- bounds
  plain_whole : (e : prism.Expression) → some_name has_quotes e ≡ false → AllNames IsPlain (plain.whole file e)
  plain_whole e h = names_written_out IsPlain (formula_body file) (λ x p. is.bodies x) (length file.formulas) e (none_named has_quotes e h)

  translated_constant : (e : prism.Expression) → Fine e → varies file e ≡ false → some_name (jani.varies (things file order is flat_is)) (translated_expression file (renamed filed_name e)) ≡ false
  translated_constant e f h =
      let r = or_parts (some_name has_quotes e) (has_variable file e) h in
      let test : Name → Bool = jani.varies (things file order is flat_is) in
      none_image test (new_property_name (flat file)) (whole file (renamed filed_name e))
      (subst (AllNames (λ x. test (new_property_name (flat file) x) ≡ false)) (sym (whole_filed file order is e))
      (names_renamed (λ x. test (new_property_name (flat file) x) ≡ false) filed_name (plain.whole file e)
      (names_with IsGood (λ x. IsPlain x × (is_variable file x ≡ false)) (λ x. test (new file order is flat_is x) ≡ false) (λ x g p. (stands x g).constant p.0 p.1) (plain.whole file e) (all_good e f)
      (names_with IsPlain (λ x. is_variable file x ≡ false) (λ x. IsPlain x × (is_variable file x ≡ false)) (λ x p q. (p, q)) (plain.whole file e) (plain_whole e r.0)
      (none_named (is_variable file) (plain.whole file e) r.1)))))

  part_constant : (r : Role) (e : prism.Expression) → Fine e → source.constant_faults file r e ≡ [] → IsConstantFor (things file order is flat_is) r (translated_expression file (renamed filed_name e))
  part_constant state e f h = tt
  part_constant steps e f h = translated_constant e f (no_fault (varies file e) (offset_of e) NotConstant h)
  part_constant probability e f h = translated_constant e f (no_fault (varies file e) (offset_of e) NotConstant h)

  -- ---- each part
  abbrev pub translated : prism.Expression → Expression
  translated e = translated_expression file (renamed filed_name e)

  pub part_fits : (x : Role × prism.Expression) → unknown_in file x ≡ [] → part_faults file x ≡ [] → Fits (things file order is flat_is) (part_with translated x)
  part_fits x k t =
      let f = fine file order is flat_is.form image_seen agreeing x k t in
      let r = append_parts (source.type_faults_of file x.0 x.1) (source.constant_faults file x.0 x.1) t in
      let s = append_parts (map (λ at. fault at WrongType) (misfits prism_meaning (name_types file) x.1)) _ r.0 in
      let ty = has_some (type_in prism_meaning (name_types file) x.1) f.typed in
      record {
        known = translated_names (λ y. jani.is_known (things file order is flat_is) y ≡ true) (λ y g. (stands y g).read) x.1 f;
        ty = ty.0;
        typed = translated_type x.1 ty.0 f ty.1;
        wanted = ap (is_unwanted (wanted_of x.0)) (sym ty.1) ∙ no_fault (is_unwanted (wanted_of x.0) (type_in prism_meaning (name_types file) x.1)) (offset_of x.1) WrongType s.1;
        constant = part_constant x.0 x.1 f r.1;
      }

  pub part_such : (Such : Reason → Type 0) → Each (λ e. NameSuch Such e.name) (entries (flat file)) → ImageHasOperands → (x : Role × prism.Expression) →
      unknown_in file x ≡ [] → part_faults file x ≡ [] → ExpressionSuch Such (translated x.1)
  part_such Such fit operands x k t =
      let f = fine file order is flat_is.form image_seen agreeing x k t in (
        (spellable file order is operands x.1 f.typed).0,
        translated_names (λ y. MeantSuch Such (meant y)) (λ y g. name_such file order is flat_is Such fit y g.left.free g.left.known) x.1 f,
      )
