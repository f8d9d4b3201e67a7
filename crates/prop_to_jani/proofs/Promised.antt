-- What is promised of the value of translated properties.
use Rattle.std.proofs.Common.{◌≡◌, ℕ, refl, sym, ap, subst, ◌∙◌, arith, List, [], ◌∷◌, map, length}
use Rattle.std.specs.List.{AllByRecursion as Each, zip}
use Rattle.basics.specs.Each.{each_then}
use Rattle.basics.specs.Lists.{append_parts}
use Rattle.op_trees.specs.Tree.{AllNumbers}
use Rattle.prism_tree.specs.Operators.{arity}
use Rattle.prism_tree.specs.Syntax.{Expression, File}
use Rattle.prism_names.specs.Flat.{flat}
use Rattle.prism_names.specs.Places.{at_places, formula_names}
use Rattle.prism_check.specs.Checked.{Checked, IsChecked}
use Rattle.jani_table.specs.Node.{Node}
use Rattle.jani_tree.specs.Form.{IsNormal, NormalNode, KeysOnce}
use Rattle.jani_tree.specs.Places.{bare_node, bare_file}
use Rattle.jani_translation.specs.Translated.{translated}
use Rattle.name_table.specs.declared.entry.Entry.{Entry}
use Rattle.name_table.specs.Laws.{OneEach}
use Rattle.prism_images.specs.Laws.{TypedImageSeenAlike, AgreeingIsNoNumber, ImageHasOperands}
use Rattle.prop_grammar.specs.Property.{Ask, greatest, least, bounded, greatest_reward, least_reward, Path}
use Rattle.prop_trees.specs.Trees.{Name, PrismProperty, JaniProperty, parts, ask_with}
use Rattle.prop_trees.specs.PrismFaults.{type_faults_of}
use Rattle.prop_trees.specs.Form.{HasForm, AsksWell, PropertyForm, AreOfPrism}
use Rattle.prop_trees.proofs.Single.{HasStructure, single_properties}
use Rattle.prop_trees.proofs.Spelled.{IsSpellable, IsWritable, NormalParts, properties_spelled, properties_once, properties_normal}
use Rattle.prop_to_jani.specs.ToJani.{translated_expression, translated_property, property_entries, to_jani, to_jani_node, reward_names}
use Rattle.prop_to_jani.specs.Laws.{TranslatedSpelled, IsTranslated}
use Rattle.prop_to_jani.specs.ReadBack.{with_properties, TranslatedReadBack}
use Rattle.prop_to_jani.proofs.Judged.{judged}
use Rattle.prop_trees.proofs.Made.{parts_with}
use Rattle.prop_to_jani.proofs.Agreeing.{fine_type, sound_parts, translated_agree}
use Rattle.prop_to_jani.proofs.Valued.{spellable, asks_with, translated_numbers, rewards_apart, rewards_many}

module _ (file : File) where
  -- what holds of each property's translation holds of all
  pub translated_each : (P : PrismProperty → Type 0) (Q : JaniProperty → Type 0) → ((p : PrismProperty) (e : Entry) → P p → Q (translated_property file p e)) →
      (ps : List PrismProperty) (es : List Entry) → Each P ps → Each Q (map (λ q. translated_property file q.0 q.1) (zip ps es))
  translated_each P Q h [] es p = tt
  translated_each P Q h (p ∷ ps) [] k = tt
  translated_each P Q h (p ∷ ps) (e ∷ es) k = (h p e k.0, translated_each P Q h ps es k.1)

  -- ---- it spells them
  record IsReady (count : ℕ) (p : PrismProperty) : Type 0 where
    expressions : Each (λ x. IsSpellable (translated_expression file x.1)) (parts p)
    asks : AsksWell count p.ask p.path

  ready_each : (count : ℕ) (ps : List PrismProperty) → Each (λ p. Each (λ x. IsSpellable (translated_expression file x.1)) (parts p)) ps → Each (PropertyForm arity count) ps →
      Each (IsReady count) ps
  ready_each count [] h k = tt
  ready_each count (p ∷ ps) h k = (record { expressions = h.0; asks = k.0.asks }, ready_each count ps h.1 k.1)

  writable : (count : ℕ) (p : PrismProperty) (e : Entry) → IsReady count p → IsWritable count (translated_property file p e)
  writable count p e r = record {
    name = e.name;
    named = refl;
    expressions = parts_with IsSpellable (translated_expression file) (λ i. i) p.ask p.path r.expressions;
    asks = asks_with (translated_expression file) count p.ask p.path r.asks;
  }

  -- ---- structures that there are
  has_structure : (count : ℕ) (rewards : List Name) (a : Ask Expression ℕ) (p : Path Expression) → length rewards ≡ count → AsksWell count a p →
      HasStructure rewards (ask_with (translated_expression file) (λ i. i) a)
  has_structure count rewards greatest p n h = tt
  has_structure count rewards least p n h = tt
  has_structure count rewards (bounded c e) p n h = tt
  has_structure count rewards (greatest_reward r) p n h = let l = h.0 in omega (arith, n, l)
  has_structure count rewards (least_reward r) p n h = let l = h.0 in omega (arith, n, l)

  -- ---- its numbers are in normal form
  normal_parts : (count : ℕ) → ((e : Expression) → AllNumbers IsNormal e → AllNumbers IsNormal (translated_expression file e)) → (p : PrismProperty) (e : Entry) →
      PropertyForm arity count p → NormalParts (parts (translated_property file p e))
  normal_parts count h p e f =
      parts_with (AllNumbers IsNormal) (translated_expression file) (λ i. i) p.ask p.path
      (each_then (λ x. HasForm arity x.1) (λ x. AllNumbers IsNormal (translated_expression file x.1)) (λ x k. h x.1 k.literals) (parts p) f.expressions)

pub translated_spelled : ImageHasOperands → TranslatedSpelled
translated_spelled operands c checked ps of =
    let file : File = c.file in
    let order = formula_names (at_places file.formulas c.order) in
    let is = judged c checked in
    let count : ℕ = length file.rewards in
    let rewards = reward_names (flat file) in
    let ready = ready_each file count ps
    (sound_parts file (λ e. IsSpellable (translated_expression file e))
    (λ x k t. spellable file order is operands x.1 (fine_type file x.0 x.1 (append_parts (type_faults_of file x.0 x.1) _ t).0)) ps of.sound) of.form in
    let spells = properties_spelled rewards count (to_jani file ps)
    (translated_each file (IsReady file count) (IsWritable count) (writable file count) ps (property_entries (flat file) ps) ready) in
    record {
      spells = spells;
      only = λ rs h. sym (single_properties rewards (rewards_apart (flat file)) (to_jani_node file ps) (to_jani file ps) rs
          (translated_each file (PropertyForm arity count) (λ q. HasStructure rewards q.ask)
          (λ p e f. has_structure file count rewards p.ask p.path (rewards_many file) f.asks) ps (property_entries (flat file) ps) of.form) spells h);
    }

-- the value has what is promised, where it is that of the translation
pub is_translated : OneEach → TypedImageSeenAlike → AgreeingIsNoNumber → TranslatedReadBack → (c : Checked) → IsChecked c → (ps : List PrismProperty) → AreOfPrism c.file ps →
    (v : Node) → v ≡ to_jani_node c.file ps → IsTranslated c ps v
is_translated one image_seen agreeing read_back c checked ps of v e =
    let file : File = c.file in
    let count : ℕ = length file.rewards in
    record {
      same = ap bare_node e;
      agree = translated_agree one image_seen agreeing c checked ps of.sound;
      normal = subst NormalNode (sym e)
          (properties_normal (reward_names (flat file)) (to_jani file ps)
          (translated_each file (PropertyForm arity count) (λ q. NormalParts (parts q)) (normal_parts file count (translated_numbers file checked.form.formulas)) ps (property_entries (flat file) ps) of.form));
      once = subst KeysOnce (sym e) (properties_once (reward_names (flat file)) (to_jani file ps));
      read = λ other clean q. read_back c checked ps of other clean (q ∙ ap (λ n. bare_file (with_properties (translated (flat file)) n)) e);
    }
