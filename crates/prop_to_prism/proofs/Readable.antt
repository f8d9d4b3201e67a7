-- What the names that properties may read become: the new names of constants, of global variables and of global labels.
use Rattle.std.specs.Prelude.{◌≡◌, ℕ, ◌<◌, [], length, Bool, true, false, not, ◌&&◌, ◌||◌, Option, Some, None, is_none, is_some, get_or, unwrap_or}
use Rattle.std.specs.List.{filter, position, list_any, All}
use Rattle.std.specs.Option.{option_or, option_or as or_else}
use Rattle.std.proofs.Common.{refl, sym, ap, ap₂, ◌∙◌, eq-eqb}
use Rattle.std.proofs.lemmas.Bool.{both_ways, or_left}
use Rattle.std.proofs.lemmas.List.Elements.{All-filter, All-from_recursion, filter_passes}
use Rattle.std.proofs.lemmas.List.Folds.{list_any-append}
use Rattle.std.proofs.lemmas.List.Quantifiers.{position-Some}
use Rattle.std.proofs.Math.Bool.{or-false}
use Rattle.basics.specs.Each.{map_each}
use Rattle.basics.specs.Members.{is_some-position}
use Rattle.basics.specs.Texts.{bytes_eq-true}
use Rattle.choice_laws.proofs.Walks.{any-filter}
use Rattle.process_core.specs.Ready.{Name}
use Rattle.process_core.specs.Instance.{numbered}
use Rattle.basics.specs.Mapped.{any_mapped}
use Rattle.basics.specs.Options.{has_some}
use Rattle.jani_tree.specs.Syntax.{VarKind, boolean, integer, number, real_bounded, one_sided, bounded, Var, File}
use Rattle.jani_check.specs.declared.things.Thing.{Thing}
use Rattle.jani_check.specs.declared.things.Thing.TheVariants.{Constant, Variable, Transient}
use Rattle.jani_check.specs.Things.{const_thing, var_thing, const_called, var_called, global_thing, beside, is_constant}
use Rattle.jani_check.specs.Things as things
use Rattle.jani_check.specs.NameFaults.{is_among, global_names}
use Rattle.jani_check.specs.Faults.{IsChecked}
use Rattle.op_trees.specs.Names.{is_called}
use Rattle.jani_meaning.specs.Elements.{elements, Owned, owned_by, is_boolean, is_label, lasting, labels, variables}
use Rattle.name_table.specs.PrismAsks.{NewNames, name_at, name_at_some, value_name, outside}
use Rattle.prism_translation_laws.specs.Elements.{may_use}
use Rattle.prism_translation_laws.proofs.Clean.{names_apart_outside}
use Rattle.prism_translation_laws.proofs.Elements.{judged_at}
use Rattle.prism_translation_laws.proofs.Scopes.{known_stands, thing_held}
use Rattle.prism_translation_laws.specs.TypeLaws.{own_variables}
use Rattle.prism_translation_laws.proofs.TypedScopes.{no_constant, nobody, variables_all, Stands, stands_all, placed_at, constant_known, variable_known}
use Rattle.jani_props.specs.declared.model.Meaning.TheVariants.{OfModel}
use Rattle.jani_props.specs.Faults.{is_read}
use Rattle.prop_to_prism.specs.ToPrism.{label_name, label_or, model_name, new_names}

-- ---- which things they are
pub label_test : (v : Var) → things.is_label (Some (var_thing v)) ≡ (v.transient && is_boolean v.kind)
label_test v = by_test v.transient v.kind
  where
    by_test : (b : Bool) (k : VarKind) → things.is_label (Some (var_thing (record v { transient = b; kind = k }))) ≡ (b && is_boolean k)
    by_test true boolean = refl
    by_test true integer = refl
    by_test true number = refl
    by_test true real_bounded = refl
    by_test true one_sided = refl
    by_test true (bounded low high) = refl
    by_test false k = refl

pub constant_no_label : (o : Option Thing) → is_constant o ≡ true → things.is_label o ≡ false
constant_no_label None h = refl
constant_no_label (Some (Constant t)) h = refl
constant_no_label (Some (Variable t)) h = absurd cc
constant_no_label (Some (Transient t)) h = absurd cc

pub lasting_no_label : (o : Option Thing) → things.is_lasting o ≡ true → things.is_label o ≡ false
lasting_no_label None h = refl
lasting_no_label (Some (Constant t)) h = absurd cc
lasting_no_label (Some (Variable t)) h = refl
lasting_no_label (Some (Transient t)) h = absurd cc

module _ (test : Option Thing → Bool) (nothing : test None ≡ false) where
  pub is_there : (o : Option Thing) → test o ≡ true → is_some o ≡ true
  is_there None h = absurd (both_ways (test None) nothing h)
  is_there (Some t) h = refl

  -- what is known stays so where more is known
  besides : (o w : Option Thing) → test o ≡ true → test (or_else o w) ≡ true
  besides None w h = absurd (both_ways (test None) nothing h)
  besides (Some t) w h = h

some_else : (o : Option Thing) → is_some (or_else o None) ≡ is_some o
some_else None = refl
some_else (Some t) = refl

first_is : (o w : Option Thing) (t : Thing) → is_some o ≡ true → or_else o w ≡ Some t → o ≡ Some t
first_is None w t h e = absurd cc
first_is (Some u) w t h e = e

-- ---- owners
-- an element in which a variable of this owner stands
scope : Option ℕ → ℕ
scope None = 0
scope (Some k) = k

may_scope : (o : Option ℕ) → may_use (scope o) o ≡ true
unfolding scope
may_scope None = refl
may_scope (Some k) = eq-eqb k k refl

module _ (file : File) (checked : IsChecked file) where
  abbrev thing : Name → Option Thing
  thing x = global_thing file x

  -- what stands for something is a global name
  among : (x : Name) → is_some (thing x) ≡ true → is_among (global_names file) x ≡ true
  among x h =
      sym (or-false (is_among (global_names file) x))
      ∙ sym (known_stands file [] (names_apart_outside file checked) const_thing var_thing x)
      ∙ some_else (thing x)
      ∙ h

  -- a variable of a global name is no element's
  abbrev IsShown : Owned → Type 0
  IsShown o = is_among (global_names file) o.var.name.name ≡ true → is_none o.owner ≡ true

  shown_all : All IsShown (variables file)
  shown_all =
      variables_all file IsShown (λ i d l h. refl)
      (λ k a g i d l h.
      absurd (both_ways (is_among (global_names file) (get_or a.variables i d).name.name)
      (All-from_recursion (λ v. is_among (global_names file) v.name.name ≡ false) a.variables
      (map_each (λ n. is_among (global_names file) n.name ≡ false) (λ v. v.name) a.variables (judged_at file checked k a g).names.inside) i d l) h))

  -- so it is among some of the variables
  shown_at : (q : Owned → Bool) (i : ℕ) (x : Name) → i < length (filter q (variables file)) → (get_or (filter q (variables file)) i nobody).var.name.name ≡ x → is_some (thing x) ≡ true →
      is_none (get_or (filter q (variables file)) i nobody).owner ≡ true
  shown_at q i x l e h = All-filter q IsShown (variables file) shown_all i nobody l (ap (is_among (global_names file)) e ∙ among x h)

  -- ---- labels
  label_there : (i : ℕ) (x : Name) → i < length (labels file) → (get_or (labels file) i nobody).var.name.name ≡ x → is_some (thing x) ≡ true → things.is_label (thing x) ≡ true
  label_there i x l e h =
      let o = get_or (labels file) i nobody in
      let stands = All-filter is_label (Stands file checked) (variables file) (stands_all file checked) i nobody l (scope o.owner) (may_scope o.owner) in
      ap things.is_label (first_is (thing x) _ (var_thing o.var) h (ap (beside (global_thing file) (own_variables file (scope o.owner))) (sym e) ∙ stands))
      ∙ label_test o.var
      ∙ filter_passes is_label (variables file) i nobody l

  pub no_label : (x : Name) → is_some (thing x) ≡ true → things.is_label (thing x) ≡ false → label_name file (new_names file) x ≡ None
  no_label x h n = ap (name_at_some (new_names file).labels) (by_place (position (λ o. is_called x o.var.name) (labels file)) refl)
    where
      by_place : (p : Option ℕ) → position (λ o. is_called x o.var.name) (labels file) ≡ p → position (λ o. is_called x o.var.name) (labels file) ≡ None
      by_place None e = e
      by_place (Some i) e =
          let first = position-Some (λ o. is_called x o.var.name) (labels file) i nobody e in
          absurd (both_ways (things.is_label (thing x)) n (label_there i x first.0 (bytes_eq-true (get_or (labels file) i nobody).var.name.name x first.1) h))

  -- a global label is one of all labels
  some_label : (x : Name) → things.is_label (thing x) ≡ true → list_any (λ o. is_called x o.var.name) (labels file) ≡ true
  some_label x h =
      any-filter (λ o. is_called x o.var.name) is_label (variables file)
      ∙ list_any-append (λ o. is_label o && is_called x o.var.name) (owned_by None file.variables) (numbered (λ i a. owned_by (Some i) a.variables) 0 (elements file))
      ∙ or_left (list_any (λ o. is_label o && is_called x o.var.name) (owned_by None file.variables)) _
      (any_mapped (λ v. record { owner = None; var = v }) (λ o. is_label o && is_called x o.var.name) (λ v. things.is_label (Some (var_thing v)) && is_called x v.name)
      (λ v. ap (λ b. b && is_called x v.name) (sym (label_test v))) file.variables
      ∙ sym (thing_held file [] (names_apart_outside file checked) const_thing var_thing things.is_label refl (λ c. refl) x)
      ∙ besides things.is_label refl (thing x) None h)

  -- ---- what may be read
  abbrev names : NewNames
  names = new_names file

  pub record ConstantAt (x : Name) : Type 0 where
    pub number : ℕ
    pub within : number < length file.constants
    pub called : (get_or file.constants number no_constant).name.name ≡ x
    pub becomes : model_name file names x ≡ name_at names.constants number

  pub record VariableAt (x : Name) : Type 0 where
    pub number : ℕ
    pub within : number < length (lasting file)
    pub called : (get_or (lasting file) number nobody).var.name.name ≡ x
    pub shown : is_none (get_or (lasting file) number nobody).owner ≡ true
    pub becomes : model_name file names x ≡ name_at names.variables number

  pub record LabelAt (x : Name) : Type 0 where
    pub number : ℕ
    pub within : number < length (labels file)
    pub called : (get_or (labels file) number nobody).var.name.name ≡ x
    pub shown : is_none (get_or (labels file) number nobody).owner ≡ true
    pub becomes : label_name file names x ≡ Some (name_at names.labels number)

  pub data ReadAt (x : Name) : Type 0 where
    a_constant : ConstantAt x → ReadAt x
    a_variable : VariableAt x → ReadAt x
    a_label : LabelAt x → ReadAt x

  pub constant_at : (x : Name) → is_constant (thing x) ≡ true → ConstantAt x
  constant_at x h =
      let there = is_there is_constant refl (thing x) h in
      let k = (constant_known file checked (outside file) x (besides is_constant refl (thing x) _ h)).known in
      let first = position-Some (λ c. is_called x c.name) file.constants k.number no_constant k.stands_there in
      record {
        number = k.number;
        within = first.0;
        called = bytes_eq-true (get_or file.constants k.number no_constant).name.name x first.1;
        becomes =
            ap (λ l. label_or file names l (value_name file names (outside file) x)) (no_label x there (constant_no_label (thing x) h))
            ∙ ap₂ (λ v c. unwrap_or (option_or (name_at_some names.variables v) (name_at_some names.constants c)) []) k.no_variable k.stands_there;
      }

  pub variable_at : (x : Name) → things.is_lasting (thing x) ≡ true → VariableAt x
  variable_at x h =
      let there = is_there things.is_lasting refl (thing x) h in
      let k = variable_known file checked (outside file) x (besides things.is_lasting refl (thing x) _ h) in
      let at = placed_at (lasting file) (outside file) x k.number k.stands_there in
      record {
        number = k.number;
        within = at.within;
        called = at.called;
        shown = shown_at (λ o. not o.var.transient) k.number x at.within at.called there;
        becomes =
            ap (λ l. label_or file names l (value_name file names (outside file) x)) (no_label x there (lasting_no_label (thing x) h))
            ∙ ap (λ v. unwrap_or (option_or (name_at_some names.variables v) (name_at_some names.constants (position (λ c. is_called x c.name) file.constants))) []) k.stands_there;
      }

  pub label_at : (x : Name) → things.is_label (thing x) ≡ true → LabelAt x
  label_at x h =
      let there = is_there things.is_label refl (thing x) h in
      let place = has_some (position (λ o. is_called x o.var.name) (labels file)) (is_some-position (λ o. is_called x o.var.name) (labels file) ∙ some_label x h) in
      let first = position-Some (λ o. is_called x o.var.name) (labels file) place.0 nobody place.1 in
      let called = bytes_eq-true (get_or (labels file) place.0 nobody).var.name.name x first.1 in
      record {
        number = place.0;
        within = first.0;
        called = called;
        shown = shown_at is_label place.0 x first.0 called there;
        becomes = ap (name_at_some names.labels) place.1;
      }

  pub read_at : (x : Name) → is_read (OfModel (thing x)) ≡ true → ReadAt x
  read_at x h = by_tests (is_constant (thing x)) (things.is_lasting (thing x)) refl refl h
    where
      by_tests : (a b : Bool) → is_constant (thing x) ≡ a → things.is_lasting (thing x) ≡ b → (a || (b || things.is_label (thing x))) ≡ true → ReadAt x
      by_tests true b e f k = a_constant (constant_at x e)
      by_tests false true e f k = a_variable (variable_at x f)
      by_tests false false e f k = a_label (label_at x k)
