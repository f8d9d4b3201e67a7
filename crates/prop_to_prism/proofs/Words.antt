-- What the names of properties are written as: identifiers, and labels between quotes, which stand for the same names where they are read.
use Rattle.std.specs.Prelude.{◌≡◌, ◌<◌, ℕ, [], ◌∷◌, map, length, Bool, true, false, IsTrue, is_some, bytes_eq, nat_eq, get_or, if◌then◌else◌}
use Rattle.std.specs.List.{All}
use Rattle.std.proofs.Common.{refl, sym, ap, subst, ◌∙◌, arith, inl, inr}
use Rattle.std.proofs.lemmas.Bool.{not-true}
use Rattle.std.proofs.lemmas.Option.{slice_get-get_or}
use Rattle.basics.specs.Each.{at_each}
use Rattle.basics.specs.Texts.{bytes_eq-true}
use Rattle.process_core.specs.Ready.{Name}
use Rattle.prism_lex.specs.declared.token.TokenKind.TheVariants.{Ident}
use Rattle.prism_lex.specs.Tokens.{IsKind}
use Rattle.prism_tree.specs.Grammar.{unquoted}
use Rattle.prism_tree.specs.Laws.{but_last_is}
use Rattle.jani_tree.specs.Syntax.{File}
use Rattle.jani_check.specs.Things.{global_thing}
use Rattle.jani_check.specs.Faults.{IsChecked}
use Rattle.jani_meaning.specs.Elements.{labels}
use Rattle.name_table.specs.declared.class.NameClass.{NameClass}
use Rattle.name_table.specs.declared.class.NameClass.TheVariants.{Constant, Label}
use Rattle.name_table.specs.declared.class.Target.TheVariants.{Prism}
use Rattle.name_table.specs.declared.entry.Entry.{Entry}
use Rattle.name_table.specs.Rule.{space, is_given_label, may_be_called}
use Rattle.name_table.specs.PrismAsks.{NewNames, name_at, value_name, outside}
use Rattle.name_table.proofs.EntryLemmas.{first_alone}
use Rattle.prism_translation_laws.specs.Targets.{targets}
use Rattle.prism_translation_laws.specs.Names.{action_ask}
use Rattle.prism_translation_laws.proofs.Entries.{IsValidName}
use Rattle.prism_translation_laws.proofs.Segments.{name_there, labels_part, is_of_label}
use Rattle.prop_trees.specs.Names.{quoted, marked, filed_label, filed_name, initial_name, deadlock_name, Meant, of_model, is_initial, is_deadlock, nothing, meant, IsMeant}
use Rattle.jani_props.specs.Faults.{is_known, is_read, meaning_by, name_types, type_of}
use Rattle.prop_trees.specs.Text.{plain_name}
use Rattle.prop_trees.specs.Printable.{IsWord}
use Rattle.prop_to_prism.specs.ToPrism.{label_or, model_name, new_meant, new_property_name, new_names}
use Rattle.prop_to_prism.proofs.Entries.{labels_same}
use Rattle.prop_to_prism.proofs.Readable.{ReadAt, a_constant, a_variable, a_label, read_at}
use Rattle.prop_to_prism.proofs.Spelled.{no_quotes, labels_long, labels_are, constant_is, variable_is}

-- the name may be written, and is read as itself
pub record IsFiled (x : Name) : Type 0 where
  pub word : IsWord (plain_name x)
  pub back : filed_name (plain_name x) ≡ x

-- ---- names of a model
value_filed : (x : Name) → IsKind x Ident → IsFiled (marked x)
value_filed x k = record { word = inl k; back = ap (λ b. if b then filed_label x (unquoted x) else marked x) (no_quotes x k.0) }

label_filed : (x : Name) → IsKind x Ident → is_given_label x ≡ false → IsFiled (marked (quoted x))
label_filed x k free = record {
  word = inr (x, refl, k.0);
  back = ap (filed_label (quoted x)) (but_last_is x 34) ∙ ap (λ b. if b then x else marked (quoted x)) free;
}

-- ---- the labels that every model has
initial_is : (x : Name) → meant x ≡ is_initial → x ≡ initial_name
initial_is [] e = absurd cc
initial_is (b ∷ x) e = by_tests (nat_eq b 46) (bytes_eq (b ∷ x) initial_name) (bytes_eq (b ∷ x) deadlock_name) refl e
  where
    by_tests : (s t u : Bool) → bytes_eq (b ∷ x) initial_name ≡ t → (if s then of_model x else if t then is_initial else if u then is_deadlock else nothing) ≡ is_initial → (b ∷ x) ≡ initial_name
    by_tests true t u f k = absurd cc
    by_tests false true u f k = bytes_eq-true (b ∷ x) initial_name f
    by_tests false false true f k = absurd cc
    by_tests false false false f k = absurd cc

deadlock_is : (x : Name) → meant x ≡ is_deadlock → x ≡ deadlock_name
deadlock_is [] e = absurd cc
deadlock_is (b ∷ x) e = by_tests (nat_eq b 46) (bytes_eq (b ∷ x) initial_name) (bytes_eq (b ∷ x) deadlock_name) refl e
  where
    by_tests : (s t u : Bool) → bytes_eq (b ∷ x) deadlock_name ≡ u → (if s then of_model x else if t then is_initial else if u then is_deadlock else nothing) ≡ is_deadlock → (b ∷ x) ≡ deadlock_name
    by_tests true t u f k = absurd cc
    by_tests false true u f k = absurd cc
    by_tests false false true f k = bytes_eq-true (b ∷ x) deadlock_name f
    by_tests false false false f k = absurd cc

initial_filed : IsFiled initial_name
initial_filed = record { word = inr (initial_name, refl, refl); back = refl }

deadlock_filed : IsFiled deadlock_name
deadlock_filed = record { word = inr (deadlock_name, refl, refl); back = refl }

-- ---- names of properties
-- a name with a type is one of the model, or one of those labels
pub has_meaning : (file : File) (x : Name) → IsTrue (is_some (name_types (global_thing file) x)) → IsMeant (meant x)
has_meaning file x h = by_meant (meant x) h
  where
    by_meant : (m : Meant) → IsTrue (is_some (type_of (meaning_by (global_thing file) m))) → IsMeant m
    by_meant (of_model y) k = tt
    by_meant is_initial k = tt
    by_meant is_deadlock k = tt
    by_meant nothing k = absurd cc

module _ (file : File) (checked : IsChecked file) where
  abbrev names : NewNames
  names = new_names file

  -- the entries of labels have their class
  spaces : All (λ (e : Entry). space Prism e.class ≡ space Prism Label) names.labels
  spaces = subst (λ es. All (λ (e : Entry). space Prism e.class ≡ space Prism Label) es) (labels_same file first_alone (map action_ask (targets file))) (labels_part file).spaces

  free_label : (c : NameClass) (x : Name) → c ≡ Label → may_be_called c x ≡ true → is_given_label x ≡ false
  free_label c x e h = not-true (is_given_label x) (ap (λ d. may_be_called d x) (sym e) ∙ h)

  no_entry : Entry
  no_entry = record { class = Constant; name = []; kept = false }

  label_at : (i : ℕ) → i < length (labels file) → IsFiled (marked (quoted (name_at names.labels i)))
  label_at i l =
      let m = labels_long file in
      let there : i < length names.labels = omega (arith, l, m) in
      let e = get_or names.labels i no_entry in
      let valid = at_each IsValidName names.labels i e (labels_are file) (slice_get-get_or names.labels i no_entry there) in
      subst (λ x. IsFiled (marked (quoted x))) (sym (name_there names.labels i no_entry there))
      (label_filed e.name valid.spelled (free_label e.class e.name (is_of_label e.class (spaces i no_entry there)) valid.free))

  model_filed : (x : Name) → ReadAt file checked x → IsFiled (marked (model_name file names x))
  model_filed x (a_constant c) = subst (λ y. IsFiled (marked y)) (sym c.becomes) (value_filed (name_at names.constants c.number) (constant_is file c.number c.within))
  model_filed x (a_variable v) = subst (λ y. IsFiled (marked y)) (sym v.becomes) (value_filed (name_at names.variables v.number) (variable_is file v.number v.within))
  model_filed x (a_label l) = subst (λ o. IsFiled (marked (label_or file names o (value_name file names (outside file) x)))) (sym l.becomes) (label_at l.number l.within)

  pub new_filed : (x : Name) → is_known (global_thing file) x ≡ true → IsMeant (meant x) → IsFiled (new_property_name file names x)
  new_filed x h s = by_meant (meant x) refl h s
    where
      by_meant : (m : Meant) → meant x ≡ m → is_read (meaning_by (global_thing file) m) ≡ true → IsMeant m → IsFiled (new_meant file names x m)
      by_meant (of_model y) e k s = model_filed y (read_at file checked y k)
      by_meant is_initial e k s = subst IsFiled (sym (initial_is x e)) initial_filed
      by_meant is_deadlock e k s = subst IsFiled (sym (deadlock_is x e)) deadlock_filed
      by_meant nothing e k s = absurd s
