-- What the names of properties become: labels that every model has, constants, lasting variables and labels of the translated model, each of
-- the type that the old name has.
use Rattle.std.proofs.Common.{◌≡◌, refl, sym, ap, subst, ◌∙◌, arith, Bool, true, false, not, ◌&&◌, List, [], ◌∷◌, ◌++◌, map, length, Option, Some, None, is_some}
use Rattle.std.specs.Prelude.{IsTrue, if◌then◌else◌, bytes_eq}
use Rattle.std.specs.List.{AllByRecursion as Each, list_any, zip}
use Rattle.std.specs.Option.{option_map}
use Rattle.std.proofs.lemmas.List.{length-map}
use Rattle.basics.specs.Each.{each_take, each_drop}
use Rattle.bridge_io.specs.declared.reason.Reason.{Reason}
use Rattle.op_trees.specs.declared.tree.Ty.TheVariants as T
use Rattle.prism_tree.specs.Operators.{prism_meaning}
use Rattle.prism_tree.specs.Syntax.{File}
use Rattle.prism_tree.specs.Grammar.{unquoted}
use Rattle.prism_names.specs.Flat.{flat}
use Rattle.prism_names.specs.Names.{formula_body}
use Rattle.prism_check.specs.Flattened.{IsFlat}
use Rattle.prism_check.specs.NameFaults.{is_among, given_labels, values}
use Rattle.prism_check.specs.TypeFaults.{types, declared_types, is_variable, variable_called}
use Rattle.prism_check.proofs.CleanTypes.{declared_kept, variable_kept}
use Rattle.prism_check.proofs.CleanValues.{known_still}
use Rattle.prism_check.proofs.NoFaults.{IsKnown}
use Rattle.prism_check.proofs.TypeOrder.{types_of_plain}
use Rattle.prism_check.proofs.Typed.{types_declared}
use Rattle.jani_check.specs.declared.things.Thing.{Thing}
use Rattle.jani_check.specs.declared.things.Thing.TheVariants as H
use Rattle.jani_check.specs.Things.{global_thing, thing_type, is_transient}
use Rattle.jani_check.specs.TypeFaults as judged
use Rattle.name_table.specs.declared.entry.Entry.{Entry}
use Rattle.name_table.specs.Asks.{entries, labels_at, new_name, new_names, value_names}
use Rattle.jani_translation.specs.Translated.{translated}
use Rattle.jani_translation.proofs.Clean.{value_names_are}
use Rattle.jani_translation.proofs.Each.{for_labels}
use Rattle.jani_translation.proofs.Fresh.{enough}
use Rattle.jani_translation_laws.proofs.Alike.{typed_alike, lasts, stays}
use Rattle.jani_translation_laws.proofs.Entries.{new_has}
use Rattle.jani_translation_laws.proofs.Transients.{labels_stand}
use Rattle.prop_grammar.specs.Grammar.{has_quotes}
use Rattle.prop_trees.specs.Trees.{Name}
use Rattle.prop_trees.specs.Names.{marked, meant, filed_name, initial_name, deadlock_name, is_given_label}
use Rattle.prop_trees.specs.PrismFaults.{is_known, name_types}
use Rattle.jani_props.specs.declared.model.Meaning.TheVariants.{OfModel}
use Rattle.jani_props.specs.Faults as jani
use Rattle.jani_props.specs.Faults.{is_read, type_of, may_vary}
use Rattle.prop_to_jani.specs.ToJani.{label_names, new_model_name, new_property_name}
use Rattle.prop_to_jani.proofs.Judged.{IsJudged}
use Rattle.prop_to_jani.proofs.Filed.{Written, given_initial, given_deadlock, a_label, a_value, written}
use Rattle.prop_to_jani.proofs.Corresponding.{Pairs, paired_first, stands, among_is, labels_named, own_label}
use Rattle.prop_to_jani.proofs.Shaped.{NameSuch, MeantSuch}

-- ---- things that are read

read_by : (o : Option Thing) → is_transient o ≡ false → IsTrue (is_some (option_map thing_type o)) → is_read (OfModel o) ≡ true
read_by None h k = absurd cc
read_by (Some (H.Constant t)) h k = refl
read_by (Some (H.Variable t)) h k = refl
read_by (Some (H.Transient t)) h k = absurd cc

constant_by : (o : Option Thing) → judged.is_variable o ≡ false → IsTrue (is_some (option_map thing_type o)) → may_vary (OfModel o) ≡ false
constant_by None h k = absurd cc
constant_by (Some (H.Constant t)) h k = refl
constant_by (Some (H.Variable t)) h k = absurd cc
constant_by (Some (H.Transient t)) h k = absurd cc

-- what holds of the names of entries, behind the names that these are made for
paired_each : {X : Type 0} (Q : Name → Type 0) (f : X → Name) (xs : List X) (es : List Entry) → Each (λ p. Q p.1.name) (zip xs es) → Pairs (λ a b. Q b) (zip (map f xs) (map (λ e. e.name) es))
paired_each Q f [] es h = tt
paired_each Q f (x ∷ xs) [] h = tt
paired_each Q f (x ∷ xs) (e ∷ es) h = (h.0, paired_each Q f xs es h.1)

zip_each : {X : Type 0} (Q : Name → Type 0) (xs : List X) (es : List Entry) → Each (λ e. Q e.name) es → Each (λ (p : X × Entry). Q p.1.name) (zip xs es)
zip_each Q [] es h = tt
zip_each Q (x ∷ xs) [] h = tt
zip_each Q (x ∷ xs) (e ∷ es) h = (h.0, zip_each Q xs es h.1)

module _ (file : File) (order : List Name) (is : IsJudged file order) (flat_is : IsFlat (flat file)) where
  abbrev pub things : Name → Option Thing
  things = global_thing (translated (flat file))

  abbrev new_label : Name → Name
  new_label y = new_name (label_names (flat file)) (new_names (flat file)).labels y

  abbrev new_value : Name → Name
  new_value x = (new_names (flat file)).value x

  -- ---- labels
  label_has : (Q : Name → Type 0) → Each (λ p. Q p.1.name) (zip (flat file).labels (new_names (flat file)).labels) → (y : Name) → is_among (map (λ l. l.name) file.labels) y ≡ true → Q (new_label y)
  label_has Q h y k =
      let n = for_labels (flat file) in
      let m = length-map (flat file).labels (λ l. l.name.name) in
      paired_first (λ x z. Q z) (label_names (flat file)) (new_names (flat file)).labels y (omega (arith, n, m))
      (paired_each Q (λ l. l.name.name) (flat file).labels (new_names (flat file)).labels h) (sym (labels_named file.labels file y) ∙ k)

  label_thing : (y : Name) → is_among (map (λ l. l.name) file.labels) y ≡ true → things (new_label y) ≡ Some (H.Transient T.Bool)
  label_thing y k = label_has (λ z. things z ≡ Some (H.Transient T.Bool)) (labels_stand (flat file)) y k

  -- ---- constants and variables
  value_known : (x : Name) → formula_body file x ≡ None → IsKnown file x → list_any (λ y. bytes_eq y x) (value_names (flat file)) ≡ true
  value_known x free k =
      ap (λ ns. stands ns x) (sym (value_names_are (flat file) flat_is.form)) ∙ sym (among_is (values (flat file)) x) ∙ known_still file is.copies x free k

  value_type : (x : Name) → formula_body file x ≡ None → option_map thing_type (things (new_value x)) ≡ types file x
  value_type x free =
      typed_alike (flat file) flat_is x ∙ types_declared (flat file) flat_is x ∙ declared_kept file x
      ∙ sym (types_of_plain prism_meaning (formula_body file) (declared_types file) (length file.formulas) x free)

  value_varies : (x : Name) → formula_body file x ≡ None → is_variable file x ≡ false → judged.is_variable (things (new_value x)) ≡ false
  value_varies x free h =
      stays (flat file) flat_is x (ap is_some (variable_kept file x) ∙ ap (λ o. not (is_some o) && is_some (variable_called file x)) (sym free) ∙ h)

  -- ---- all names

  -- what the new name is, by what the old one is
  pub record StandsFor (x y : Name) : Type 0 where
    pub read : jani.is_known things y ≡ true
    pub typed : jani.name_types things y ≡ name_types file x
    pub constant : has_quotes x ≡ false → is_variable file x ≡ false → jani.varies things y ≡ false

  of_label : (x : Name) → has_quotes x ≡ true → is_among (map (λ l. l.name) file.labels) (unquoted x) ≡ true → StandsFor x (marked (new_model_name (flat file) x))
  of_label x q k =
      let is_label : things (new_model_name (flat file) x) ≡ Some (H.Transient T.Bool) =
      ap (λ (b : Bool). things (if b then new_label (unquoted x) else new_value x)) q ∙ label_thing (unquoted x) k in
      record {
        read = ap (λ o. is_read (OfModel o)) is_label;
        typed = ap (λ o. type_of (OfModel o)) is_label ∙ sym (ap (λ (b : Bool). if b then Some T.Bool else types file x) q);
        constant = λ p h. absurd (let no : true ≡ false = sym q ∙ p in cc);
      }

  of_value : (x : Name) → has_quotes x ≡ false → formula_body file x ≡ None → IsTrue (is_some (name_types file x)) → StandsFor x (marked (new_model_name (flat file) x))
  of_value x q free t =
      let same : things (new_model_name (flat file) x) ≡ things (new_value x) = ap (λ (b : Bool). things (if b then new_label (unquoted x) else new_value x)) q in
      let plain : name_types file x ≡ types file x = ap (λ (b : Bool). if b then Some T.Bool else types file x) q in
      let some : IsTrue (is_some (option_map thing_type (things (new_value x)))) = subst (λ o. IsTrue (is_some o)) (plain ∙ sym (value_type x free)) t in
      record {
        read = ap (λ o. is_read (OfModel o)) same ∙ read_by (things (new_value x)) (lasts (flat file) flat_is x) some;
        typed = ap (λ o. type_of (OfModel o)) same ∙ value_type x free ∙ sym plain;
        constant = λ p h. ap (λ o. may_vary (OfModel o)) same ∙ constant_by (things (new_value x)) (value_varies x free h) some;
      }

  known_label : (x : Name) → has_quotes x ≡ true → is_given_label (unquoted x) ≡ false → is_known file x ≡ true → is_among (map (λ l. l.name) file.labels) (unquoted x) ≡ true
  known_label x q g k =
      own_label (map (λ l. l.name) file.labels) (unquoted x) g
      (sym (ap (λ (b : Bool). if b then is_among (given_labels ++ map (λ l. l.name) file.labels) (unquoted x) else is_among (values file) x) q) ∙ k)

  known_value : (x : Name) → has_quotes x ≡ false → is_known file x ≡ true → IsKnown file x
  known_value x q k = sym (ap (λ (b : Bool). if b then is_among (given_labels ++ map (λ l. l.name) file.labels) (unquoted x) else is_among (values file) x) q) ∙ k

  abbrev pub new : Name → Name
  new x = new_property_name (flat file) (filed_name x)

  pub stands_for : (x : Name) → formula_body file x ≡ None → is_known file x ≡ true → IsTrue (is_some (name_types file x)) → StandsFor x (new x)
  stands_for x free k t = by_case (written x)
    where
      filed_so : (y : Name) → filed_name x ≡ y → StandsFor x (new_property_name (flat file) y) → StandsFor x (new x)
      filed_so y e h = subst (λ z. StandsFor x (new_property_name (flat file) z)) (sym e) h

      built_in : has_quotes x ≡ true → Some T.Bool ≡ name_types file x
      built_in q = sym (ap (λ (b : Bool). if b then Some T.Bool else types file x) q)

      by_case : Written x → StandsFor x (new x)
      by_case (given_initial q e) = filed_so initial_name e (record { read = refl; typed = built_in q; constant = λ p h. absurd (let no : true ≡ false = sym q ∙ p in cc) })
      by_case (given_deadlock q e) = filed_so deadlock_name e (record { read = refl; typed = built_in q; constant = λ p h. absurd (let no : true ≡ false = sym q ∙ p in cc) })
      by_case (a_label q g e) = filed_so (marked x) e (of_label x q (known_label x q g k))
      by_case (a_value q e) = filed_so (marked x) e (of_value x q free t)

  -- ---- the faults of new names
  module _ (Such : Reason → Type 0) (fit : Each (λ e. NameSuch Such e.name) (entries (flat file))) where
    label_such : (y : Name) → is_among (map (λ l. l.name) file.labels) y ≡ true → NameSuch Such (new_label y)
    label_such y k =
        label_has (NameSuch Such)
        (zip_each (NameSuch Such) (flat file).labels (new_names (flat file)).labels
        (each_take (λ e. NameSuch Such e.name) (length (flat file).labels) _ (each_drop (λ e. NameSuch Such e.name) (labels_at (flat file) (entries (flat file))) (entries (flat file)) fit))) y k

    value_such : (x : Name) → formula_body file x ≡ None → IsKnown file x → NameSuch Such (new_value x)
    value_such x free k = new_has (NameSuch Such) (value_names (flat file)) (entries (flat file)) x (enough (flat file)) (value_known x free k) fit

    pub name_such : (x : Name) → formula_body file x ≡ None → is_known file x ≡ true → MeantSuch Such (meant (new x))
    name_such x free k = by_case (written x)
      where
        filed_so : (y : Name) → filed_name x ≡ y → MeantSuch Such (meant (new_property_name (flat file) y)) → MeantSuch Such (meant (new x))
        filed_so y e h = subst (λ z. MeantSuch Such (meant (new_property_name (flat file) z))) (sym e) h

        of_quotes : (b : Bool) → has_quotes x ≡ b → NameSuch Such (if b then new_label (unquoted x) else new_value x) → NameSuch Such (new_model_name (flat file) x)
        of_quotes b q h = subst (λ c. NameSuch Such (if c then new_label (unquoted x) else new_value x)) (sym q) h

        by_case : Written x → MeantSuch Such (meant (new x))
        by_case (given_initial q e) = filed_so initial_name e tt
        by_case (given_deadlock q e) = filed_so deadlock_name e tt
        by_case (a_label q g e) = filed_so (marked x) e (of_quotes true q (label_such (unquoted x) (known_label x q g k)))
        by_case (a_value q e) = filed_so (marked x) e (of_quotes false q (value_such x free (known_value x q k)))
