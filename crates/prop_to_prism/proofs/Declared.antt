-- The new names in properties are declared in the translated file, with the types of the old ones.
use Rattle.std.specs.Prelude.{◌≡◌, ◌<◌, ℕ, List, [], ◌++◌, map, length, Bool, true, false, not, ◌||◌, Option, Some, None, is_some, bytes_eq, unwrap_or, if◌then◌else◌}
use Rattle.std.specs.List.{list_any, position, AllByRecursion as Each}
use Rattle.std.specs.Option.{option_map, option_or, option_or as or_else}
use Rattle.std.proofs.Common.{refl, sym, ap, ap₂, subst, ◌∙◌, arith}
use Rattle.std.proofs.lemmas.Bool.{both_ways, not-false, or_right}
use Rattle.std.proofs.lemmas.List.{length-map}
use Rattle.basics.specs.Each.{each_map}
use Rattle.basics.specs.Options.{has_some}
use Rattle.bridge_io.specs.declared.reason.Named.{Named}
use Rattle.op_trees.specs.declared.tree.Ty.TheVariants as T
use Rattle.op_trees.specs.Names.{is_called}
use Rattle.process_core.specs.Product.{map-map}
use Rattle.process_core.specs.Ready.{Name}
use Rattle.name_rules.specs.Names.{is_among}
use Rattle.name_rules.proofs.Plain.{among_names}
use Rattle.prism_tree.specs.Syntax as prism
use Rattle.prism_tree.specs.Grammar.{unquoted}
use Rattle.prism_tree.specs.Laws.{but_last_is}
use Rattle.prism_check.specs.NameFaults.{given_labels, values}
use Rattle.prism_check.specs.TypeFaults.{types, is_variable}
use Rattle.jani_tree.specs.Syntax.{File}
use Rattle.jani_check.specs.declared.things.Thing.{Thing}
use Rattle.jani_check.specs.declared.things.Thing.TheVariants.{Constant, Variable, Transient}
use Rattle.jani_check.specs.Things.{var_thing, var_called, global_thing, thing_type, is_constant, is_transient}
use Rattle.jani_check.specs.Things as things
use Rattle.jani_check.specs.Faults.{IsChecked}
use Rattle.jani_meaning.specs.Elements.{labels, lasting, place_of}
use Rattle.name_table.specs.declared.entry.Entry.{Entry}
use Rattle.name_table.specs.Entries.{Ask}
use Rattle.name_table.specs.PrismAsks.{NewNames, name_at, name_at_some, value_name, outside}
use Rattle.name_table.proofs.EntryLemmas.{first_alone}
use Rattle.prism_translation.specs.Targets.{targets}
use Rattle.prism_translation.specs.Names as translation
use Rattle.prism_translation.specs.Names.{action_ask}
use Rattle.prism_translation.specs.Marks.{label}
use Rattle.prism_translation.specs.Translated.{translated}
use Rattle.prism_translation.proofs.Clean.{has_element}
use Rattle.prism_translation_laws.specs.TypeLaws.{own_variables}
use Rattle.prism_translation_laws.proofs.Entries.{IsValidName}
use Rattle.prism_translation_laws.proofs.Segments.{labels_part}
use Rattle.prism_translation_laws.proofs.Values.{zip_named, constant_value, variable_value}
use Rattle.prism_translation_laws.proofs.Expressions.{names_typed_alike, constants_stay_constant}
use Rattle.prop_grammar.specs.Grammar.{has_quotes}
use Rattle.prop_trees.specs.Names.{quoted, initial_name, deadlock_name, Meant, of_model, is_initial, is_deadlock, nothing, meant, IsMeant}
use Rattle.prop_trees.specs.PrismFaults.{is_known, name_types}
use Rattle.prop_trees.specs.Printable.{IsTitle}
use Rattle.jani_props.specs.declared.model.Meaning.{Meaning}
use Rattle.jani_props.specs.declared.model.Meaning.TheVariants.{OfModel}
use Rattle.jani_props.specs.Faults as jani
use Rattle.jani_props.specs.Faults.{is_read, type_of, may_vary, meaning_by, meaning}
use Rattle.prop_to_prism.specs.ToPrism.{label_or, model_name, new_names}
use Rattle.prop_to_prism.specs.Code.{names_of, plain_new}
use Rattle.prop_to_prism.proofs.Entries.{constants_same, variables_same, labels_same}
use Rattle.prop_to_prism.proofs.NewNames.{written_meant, plain_is}
use Rattle.prop_to_prism.proofs.Numbered.{name_there, name_some, some_at}
use Rattle.prop_to_prism.proofs.Readable.{is_there, no_label, constant_no_label, lasting_no_label, constant_at, variable_at, label_at}
use Rattle.prop_to_prism.proofs.Spelled.{no_quotes, labels_long, labels_are, constant_is, variable_is}
use Rattle.prop_to_prism.proofs.Texts.{name_numbered}

-- ---- which things they are
stays : (o w : Option Thing) → is_some o ≡ true → or_else o w ≡ o
stays None w h = absurd cc
stays (Some t) w h = refl

constant_stays : (o : Option Thing) → is_constant o ≡ true → is_transient o ≡ false
constant_stays None h = refl
constant_stays (Some (Constant t)) h = refl
constant_stays (Some (Variable t)) h = refl
constant_stays (Some (Transient t)) h = absurd cc

lasting_stays : (o : Option Thing) → things.is_lasting o ≡ true → is_transient o ≡ false
lasting_stays None h = refl
lasting_stays (Some (Constant t)) h = refl
lasting_stays (Some (Variable t)) h = refl
lasting_stays (Some (Transient t)) h = absurd cc

label_typed : (o : Option Thing) → things.is_label o ≡ true → option_map thing_type o ≡ Some T.Bool
label_typed None h = absurd cc
label_typed (Some (Constant t)) h = absurd cc
label_typed (Some (Variable t)) h = absurd cc
label_typed (Some (Transient T.Bool)) h = refl
label_typed (Some (Transient T.Int)) h = absurd cc
label_typed (Some (Transient T.Real)) h = absurd cc

label_varies : (o : Option Thing) → things.is_label o ≡ true → not (is_constant o) ≡ true
label_varies None h = refl
label_varies (Some (Constant t)) h = absurd cc
label_varies (Some (Variable t)) h = refl
label_varies (Some (Transient t)) h = refl

-- ---- names of the translated file
module _ (file : File) where
  abbrev names : NewNames
  names = new_names file

  -- those of the model are those of its translation, which has names for its actions too
  abbrev made : List Ask
  made = map action_ask (targets file)

  abbrev all_names : NewNames
  all_names = translation.new_names file

  value_moved : (k : ℕ) (x : Name) → value_name file names k x ≡ value_name file all_names k x
  value_moved k x =
      ap₂ (λ (vs cs : List Entry). unwrap_or (option_or (name_at_some vs (place_of (lasting file) k x)) (name_at_some cs (position (λ c. is_called x c.name) file.constants))) [])
      (sym (variables_same file first_alone made)) (sym (constants_same file first_alone made))

  -- ---- labels
  labels_named : map (λ (n : Named). n.name) (map (λ (l : prism.Label). l.name) (translated file).labels) ≡ names_of names.labels
  labels_named =
      map-map (λ (n : Named). n.name) (λ (l : prism.Label). l.name) (translated file).labels
      ∙ zip_named (λ (l : prism.Label). l.name.name) (λ o e. label file all_names o e.name) (λ o e. refl) (labels file) all_names.labels (labels_part file).long
      ∙ ap (map (λ (e : Entry). e.name)) (labels_same file first_alone made)

  titles : Each IsTitle (names_of names.labels)
  titles = each_map IsValidName IsTitle (λ e. e.name) (λ e v. v.spelled.0) names.labels (labels_are file)

  label_among : (i : ℕ) → i < length (labels file) → is_among (given_labels ++ map (λ l. l.name) (translated file).labels) (name_at names.labels i) ≡ true
  label_among i l =
      let x = name_at names.labels i in
      let ls = map (λ (l : prism.Label). l.name) (translated file).labels in
      let m = labels_long file in
      let n = length-map names.labels (λ (e : Entry). e.name) in
      let within : i < length (names_of names.labels) = omega (arith, l, m, n) in
      or_right (bytes_eq initial_name x) (bytes_eq deadlock_name x || is_among ls x)
      (or_right (bytes_eq deadlock_name x) (is_among ls x)
      (among_names ls x
      ∙ ap (list_any (λ y. bytes_eq y x)) labels_named
      ∙ some_at (names_of names.labels) x i (name_there (names_of names.labels) i ∙ sym (name_numbered names.labels i))
      (λ e. name_some (names_of names.labels) i titles within (sym (name_numbered names.labels i) ∙ e))))

module _ (file : File) (checked : IsChecked file) where
  abbrev model : prism.File
  model = translated file

  abbrev thing : Name → Option Thing
  thing x = global_thing file x

  -- outside of elements nothing is known besides
  abbrev besides : Name → Option Thing
  besides x = option_map var_thing (var_called (own_variables file (outside file)) x)

  value_typed : (x : Name) → is_some (thing x) ≡ true → is_transient (thing x) ≡ false → types model (value_name file (all_names file) (outside file) x) ≡ option_map thing_type (thing x)
  value_typed x s n =
      let t = has_some (thing x) s in
      names_typed_alike file checked (outside file) x (thing_type t.0) (ap (option_map thing_type) (stays (thing x) (besides x) s ∙ t.1)) (ap is_transient (stays (thing x) (besides x) s) ∙ n)
      ∙ sym (ap (option_map thing_type) t.1)

  -- A name that stands for this is declared with its type, and that of a constant as one.
  pub record IsDeclared (x : Name) (m : Meaning) : Type 0 where
    pub typed : name_types model x ≡ type_of m
    pub known : is_known model x ≡ true
    pub fixed : may_vary m ≡ false → (has_quotes x ≡ false) × (is_variable model x ≡ false)

  -- ---- constants and variables
  abbrev IsNamed : Name → Type 0
  IsNamed x = model_name file (names file) x ≡ value_name file (all_names file) (outside file) x

  value_declared : (x : Name) → IsNamed x → has_quotes (model_name file (names file) x) ≡ false → is_among (values model) (model_name file (names file) x) ≡ true → is_some (thing x) ≡ true →
      is_transient (thing x) ≡ false → IsDeclared (model_name file (names file) x) (OfModel (thing x))
  value_declared x named plain known there lasts =
      let z = model_name file (names file) x in
      record {
        typed = ap (λ b. if b then Some T.Bool else types model z) plain ∙ ap (types model) named ∙ value_typed x there lasts;
        known = ap (λ b. if b then is_among (given_labels ++ map (λ l. l.name) model.labels) (unquoted z) else is_among (values model) z) plain ∙ known;
        fixed = λ v. (
          plain,
          ap (is_variable model) named
              ∙ constants_stay_constant file checked (outside file) x (ap is_constant (stays (thing x) (besides x) there) ∙ not-false (is_constant (thing x)) v),
        );
      }

  unlabelled : (x : Name) → is_some (thing x) ≡ true → things.is_label (thing x) ≡ false → IsNamed x
  unlabelled x there n = ap (λ l. label_or file (names file) l (value_name file (names file) (outside file) x)) (no_label file checked x there n) ∙ value_moved file (outside file) x

  constant_declared : (x : Name) → is_constant (thing x) ≡ true → IsDeclared (model_name file (names file) x) (OfModel (thing x))
  constant_declared x h =
      let c = constant_at file checked x h in
      let there = is_there is_constant refl (thing x) h in
      value_declared x (unlabelled x there (constant_no_label (thing x) h))
      (ap has_quotes c.becomes ∙ no_quotes (name_at (names file).constants c.number) (constant_is file c.number c.within).0)
      (ap (is_among (values model)) (c.becomes ∙ ap (λ es. name_at es c.number) (sym (constants_same file first_alone (made file)))) ∙ constant_value file c.number c.within)
      there (constant_stays (thing x) h)

  variable_declared : (x : Name) → things.is_lasting (thing x) ≡ true → IsDeclared (model_name file (names file) x) (OfModel (thing x))
  variable_declared x h =
      let v = variable_at file checked x h in
      let there = is_there things.is_lasting refl (thing x) h in
      value_declared x (unlabelled x there (lasting_no_label (thing x) h))
      (ap has_quotes v.becomes ∙ no_quotes (name_at (names file).variables v.number) (variable_is file v.number v.within).0)
      (ap (is_among (values model)) (v.becomes ∙ ap (λ es. name_at es v.number) (sym (variables_same file first_alone (made file)))) ∙ variable_value file (has_element file checked) v.number v.within)
      there (lasting_stays (thing x) h)

  -- ---- labels
  label_declared : (x : Name) → things.is_label (thing x) ≡ true → IsDeclared (model_name file (names file) x) (OfModel (thing x))
  label_declared x h =
      let l = label_at file checked x h in
      let y = name_at (names file).labels l.number in
      let becomes : model_name file (names file) x ≡ quoted y = ap (λ o. label_or file (names file) o (value_name file (names file) (outside file) x)) l.becomes in
      subst (λ z. IsDeclared z (OfModel (thing x))) (sym becomes)
      (record {
        typed = sym (label_typed (thing x) h);
        known = ap (is_among (given_labels ++ map (λ l. l.name) model.labels)) (but_last_is y 34) ∙ label_among file l.number l.within;
        fixed = λ v. absurd (both_ways (not (is_constant (thing x))) v (label_varies (thing x) h));
      })

  -- ---- all names of properties
  model_declared : (x : Name) → is_read (OfModel (thing x)) ≡ true → IsDeclared (model_name file (names file) x) (OfModel (thing x))
  model_declared x h = by_tests (is_constant (thing x)) (things.is_lasting (thing x)) refl refl h
    where
      by_tests : (a b : Bool) → is_constant (thing x) ≡ a → things.is_lasting (thing x) ≡ b → (a || (b || things.is_label (thing x))) ≡ true → IsDeclared (model_name file (names file) x) (OfModel (thing x))
      by_tests true b e f k = constant_declared x e
      by_tests false true e f k = variable_declared x f
      by_tests false false e f k = label_declared x k

  meant_declared : (m : Meant) → is_read (meaning_by (global_thing file) m) ≡ true → IsMeant m → IsDeclared (written_meant file (names file) m) (meaning_by (global_thing file) m)
  meant_declared (of_model y) k s = model_declared y k
  meant_declared is_initial k s = record { typed = refl; known = refl; fixed = λ e. absurd cc }
  meant_declared is_deadlock k s = record { typed = refl; known = refl; fixed = λ e. absurd cc }
  meant_declared nothing k s = absurd s

  pub new_declared : (x : Name) → jani.is_known (global_thing file) x ≡ true → IsMeant (meant x) → IsDeclared (plain_new file (names file) x) (meaning (global_thing file) x)
  new_declared x h s = subst (λ z. IsDeclared z (meaning (global_thing file) x)) (sym (plain_is file (names file) x)) (meant_declared (meant x) h s)
