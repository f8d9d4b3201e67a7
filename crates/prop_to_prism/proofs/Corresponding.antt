-- Names of a model in environments that correspond: the new name is seen as the old one.
use Rattle.std.specs.Prelude.{◌≡◌, ◌<◌, ℕ, zero, suc, List, [], ◌∷◌, map, length, Bool, true, false, cond, is_none, get_or, if◌then◌else◌}
use Rattle.std.specs.List.{AllByRecursion as Each, filter, zip}
use Rattle.std.proofs.Common.{refl, sym, ap, ◌∙◌, arith}
use Rattle.basics.specs.Each.{each_parts}
use Rattle.op_trees.specs.Tree.{AllNames}
use Rattle.op_trees.specs.Seen.{Seen, known, known_names}
use Rattle.op_trees.specs.SeenLaws.{names_then}
use Rattle.prism_tree.specs.Grammar.{unquoted}
use Rattle.prism_tree.specs.Laws.{but_last_is}
use Rattle.prism_names.specs.Names.{reading}
use Rattle.jani_tree.specs.Syntax.{Expression, Const, File}
use Rattle.jani_tree.specs.Canonical.{HasOperands}
use Rattle.jani_check.specs.Things.{global_thing}
use Rattle.jani_check.specs.Faults.{IsChecked}
use Rattle.jani_meaning.specs.Elements.{Owned, lasting, labels}
use Rattle.name_table.specs.declared.entry.Entry.{Entry}
use Rattle.name_table.specs.PrismAsks.{NewNames, name_at, value_name, outside}
use Rattle.jani_images.proofs.ImageSeen.{image_seen}
use Rattle.prism_translation_laws.specs.Translated.{translated}
use Rattle.prism_translation_laws.proofs.TypedScopes.{no_constant, nobody}
use Rattle.prop_grammar.specs.Grammar.{has_quotes}
use Rattle.prop_trees.specs.Trees.{Name}
use Rattle.prop_trees.specs.Names.{Meant, of_model, is_initial, is_deadlock, nothing, meant}
use Rattle.prop_trees.specs.Agree.{PrismEnvironment, JaniEnvironment, truth, prism_model_name, prism_seen, jani_seen, prism_value, jani_value, Correspond}
use Rattle.jani_props.specs.Faults.{is_known, is_read, meaning_by}
use Rattle.prop_to_prism.specs.ToPrism.{paired, paired_global, naming, label_or, model_name, new_meant, new_property_name, new_names, translated_expression}
use Rattle.prop_to_prism.proofs.Readable.{ReadAt, a_constant, a_variable, a_label, read_at}
use Rattle.prop_to_prism.proofs.Spelled.{no_quotes, constants_long, variables_long, labels_long, constant_is, variable_is}

-- ---- the pair at a place
module _ (Q : Name → Name → Type 0) where
  abbrev Pairs : List (Name × Name) → Type 0
  Pairs ns = Each (λ n. Q n.0 n.1) ns

  constant_pair : (cs : List Const) (es : List Entry) (i : ℕ) (d : Const) → length es ≡ length cs → i < length cs → Pairs (paired cs es) → Q (name_at es i) (get_or cs i d).name.name
  constant_pair [] es i d l h a = absurd (omega (arith, h))
  constant_pair (c ∷ cs) [] i d l h a = absurd (omega (arith, l))
  constant_pair (c ∷ cs) (e ∷ es) zero d l h a = a.0
  constant_pair (c ∷ cs) (e ∷ es) (suc i) d l h a = constant_pair cs es i d (omega (arith, l)) (omega (arith, h)) a.1

  -- where no element has it
  global_pair : (os : List Owned) (es : List Entry) (i : ℕ) (d : Owned) → length es ≡ length os → i < length os → is_none (get_or os i d).owner ≡ true → Pairs (paired_global os es) →
      Q (name_at es i) (get_or os i d).var.name.name
  global_pair [] es i d l h k a = absurd (omega (arith, h))
  global_pair (o ∷ os) [] i d l h k a = absurd (omega (arith, l))
  global_pair (o ∷ os) (e ∷ es) zero d l h k a = by_test (is_none o.owner) k a
    where
      by_test : (b : Bool) → b ≡ true → Pairs (map (λ p. (p.1.name, p.0.var.name.name)) (cond b ((o, e) ∷ filter (λ p. is_none p.0.owner) (zip os es)) (filter (λ p. is_none p.0.owner) (zip os es)))) →
          Q e.name o.var.name.name
      by_test true t a = a.0
      by_test false t a = absurd cc
  global_pair (o ∷ os) (e ∷ es) (suc i) d l h k a = by_test (is_none o.owner) (global_pair os es i d (omega (arith, l)) (omega (arith, h)) k) a
    where
      by_test : (b : Bool) → (Pairs (paired_global os es) → Q (name_at es i) (get_or os i d).var.name.name) →
          Pairs (map (λ p. (p.1.name, p.0.var.name.name)) (cond b ((o, e) ∷ filter (λ p. is_none p.0.owner) (zip os es)) (filter (λ p. is_none p.0.owner) (zip os es)))) →
          Q (name_at es i) (get_or os i d).var.name.name
      by_test true rest a = rest a.1
      by_test false rest a = rest a

-- ---- names
module _ (file : File) (checked : IsChecked file) (p : PrismEnvironment) (j : JaniEnvironment) (match : Correspond (naming file) p j) where
  abbrev names : NewNames
  names = new_names file

  abbrev Same : Name → Name → Type 0
  Same x y = j.value y ≡ p.value x

  abbrev values : Each (λ n. Same n.0 n.1) (paired file.constants names.constants) × Each (λ n. Same n.0 n.1) (paired_global (lasting file) names.variables)
  values = each_parts (λ n. Same n.0 n.1) (paired file.constants names.constants) (paired_global (lasting file) names.variables) match.values

  -- a name without quotes: the translated file has no formulas
  plain_seen : (x : Name) → has_quotes x ≡ false → prism_model_name (translated file) p x ≡ known (p.value x)
  unfolding reading
  plain_seen x q = ap (λ b. if b then known (p.label (unquoted x)) else reading (translated file) (known_names p.value) x) q

  model_seen : (x : Name) → ReadAt file checked x → prism_model_name (translated file) p (model_name file names x) ≡ known (j.value x)
  model_seen x (a_constant c) =
      ap (prism_model_name (translated file) p) c.becomes
      ∙ plain_seen (name_at names.constants c.number) (no_quotes (name_at names.constants c.number) (constant_is file c.number c.within).0)
      ∙ ap known (sym (constant_pair Same file.constants names.constants c.number no_constant (constants_long file) c.within values.0) ∙ ap j.value c.called)
  model_seen x (a_variable v) =
      ap (prism_model_name (translated file) p) v.becomes
      ∙ plain_seen (name_at names.variables v.number) (no_quotes (name_at names.variables v.number) (variable_is file v.number v.within).0)
      ∙ ap known (sym (global_pair Same (lasting file) names.variables v.number nobody (variables_long file) v.within v.shown values.1) ∙ ap j.value v.called)
  model_seen x (a_label l) =
      ap (λ o. prism_model_name (translated file) p (label_or file names o (value_name file names (outside file) x))) l.becomes
      ∙ ap (λ y. known (p.label y)) (but_last_is (name_at names.labels l.number) 34)
      ∙ ap known
      (sym (global_pair (λ x y. j.value y ≡ p.label x) (labels file) names.labels l.number nobody (labels_long file) l.within l.shown match.labels) ∙ ap j.value l.called)

  name_same : (x : Name) → is_known (global_thing file) x ≡ true → prism_seen (translated file) p (meant (new_property_name file names x)) ≡ jani_seen j (meant x)
  name_same x h = by_meant (meant x) refl h
    where
      by_meant : (m : Meant) → meant x ≡ m → is_read (meaning_by (global_thing file) m) ≡ true → prism_seen (translated file) p (meant (new_meant file names x m)) ≡ jani_seen j m
      by_meant (of_model y) e k = model_seen y (read_at file checked y k)
      by_meant is_initial e k = ap (prism_seen (translated file) p) e ∙ ap (λ b. known (truth b)) (sym match.initial)
      by_meant is_deadlock e k = ap (prism_seen (translated file) p) e ∙ ap (λ b. known (truth b)) (sym match.deadlock)
      by_meant nothing e k = ap (prism_seen (translated file) p) e

  -- so an expression of a property has the value of its translation
  pub value_same : (e : Expression) → AllNames (λ x. is_known (global_thing file) x ≡ true) e → HasOperands e → prism_value (translated file) p (translated_expression file e) ≡ jani_value j e
  value_same e k o =
      ap (λ (s : Seen). s.value)
      (image_seen (new_property_name file names) (λ x. jani_seen j (meant x)) (λ x. prism_seen (translated file) p (meant x)) e
      (names_then (λ x. is_known (global_thing file) x ≡ true) (λ x. prism_seen (translated file) p (meant (new_property_name file names x)) ≡ jani_seen j (meant x)) name_same e k) o)
