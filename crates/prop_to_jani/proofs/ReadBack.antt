-- The properties of the translated file are read back.
use Rattle.std.proofs.Common.{◌≡◌, ℕ, zero, suc, ◌<◌, ◌≤◌, refl, ap, ap₂, subst, ◌∙◌, arith, Bool, false, not, List, [], ◌∷◌, map, flat_map, length, get_or, position, Option, Some, is_some}
use Rattle.std.specs.Prelude.{bytes_eq}
use Rattle.std.specs.List.{AllByRecursion as Each, AllZip, zip}
use Rattle.basics.specs.Each.{each_then, each_with, each_map, each_take, each_drop, each_empty}
use Rattle.basics.specs.Lists.{append_both}
use Rattle.basics.specs.Options.{if_some}
use Rattle.bridge_io.specs.declared.reason.Named.{Named}
use Rattle.bridge_io.specs.declared.reason.Reason.{Reason}
use Rattle.bridge_io.specs.declared.reason.Reason.TheVariants.{TooLong, TwiceNamed, Unknown}
use Rattle.bridge_io.specs.declared.reason.Fault.{Fault}
use Rattle.op_trees.specs.Tree.{bare, renamed}
use Rattle.name_rules.specs.Doubled.{doubled}
use Rattle.name_rules.proofs.Plain.{fault_none}
use Rattle.prism_tree.specs.Operators.{arity}
use Rattle.prism_tree.specs.Syntax as prism
use Rattle.prism_names.specs.Flat.{flat}
use Rattle.prism_names.specs.Places.{at_places, formula_names}
use Rattle.prism_flat.specs.FlatLaws.{is_written_out}
use Rattle.prism_check.specs.Checked.{Checked, IsChecked}
use Rattle.prism_check.specs.Flattened.{IsFlat}
use Rattle.prism_check.proofs.CleanFile.{flat_is_checked}
use Rattle.jani_table.specs.Node.{Node}
use Rattle.jani_tree.specs.Syntax.{Expression}
use Rattle.jani_tree.specs.Syntax as jani
use Rattle.jani_tree.specs.Places.{bare_node, bare_file}
use Rattle.jani_check.specs.declared.things.Thing.{Thing}
use Rattle.jani_check.specs.Faults as judged
use Rattle.name_rules.specs.Names.{is_among}
use Rattle.name_table.specs.declared.entry.Entry.{Entry}
use Rattle.name_table.specs.Asks.{asks, entries, new_names, rewards_at}
use Rattle.name_table.proofs.EntryLemmas.{one_each}
use Rattle.prism_images.specs.Laws.{TypedImageSeenAlike, AgreeingIsNoNumber, ImageHasOperands}
use Rattle.jani_translation.specs.Translated.{translated}
use Rattle.prop_grammar.specs.Property.{Ask, greatest, least, bounded, greatest_reward, least_reward, Path}
use Rattle.prop_trees.specs.Trees.{Name, Role, PrismProperty, JaniProperty, parts, structure_of, ask_with}
use Rattle.prop_trees.specs.Names.{filed_name}
use Rattle.prop_trees.specs.PrismFaults.{number_of, filed as written_filed}
use Rattle.prop_trees.specs.Form.{AsksWell, PropertyForm, AreOfPrism}
use Rattle.prop_trees.specs.JaniText.{structure_name}
use Rattle.prop_trees.proofs.Single.{AreApart}
use Rattle.jani_props.specs.declared.table.PropForm.TheVariants as F
use Rattle.jani_props.specs.Syntax.{Written}
use Rattle.jani_props.specs.Spelled.{AreWritten}
use Rattle.jani_props.specs.Shape.{faults}
use Rattle.jani_props.specs.Faults.{given_names, shape_faults, structures, unknown_structure, unknown_names, unknown_in, wrong_in, wrong_types, titles, names_wrong, types_wrong, name_faults, type_faults, numbered, or_nought, filed, filed_by}
use Rattle.jani_props.proofs.Filed.{all_read}
use Rattle.prop_to_jani.specs.ToJani.{all_entries, property_entries, reward_names, to_jani, to_jani_node, translated_expression, translated_property}
use Rattle.prop_to_jani.specs.ReadBack.{with_properties, bare_property, IsReadBack, TranslatedReadBack}
use Rattle.prop_to_jani.proofs.Judged.{IsJudged, judged as is_judged}
use Rattle.prop_to_jani.proofs.Agreeing.{entries_each, sound_each}
use Rattle.prop_to_jani.proofs.Valued.{asks_with, rewards_apart, rewards_many}
use Rattle.prop_to_jani.proofs.Promised.{translated_spelled}
use Rattle.prop_to_jani.proofs.Shaped.{AreSuch, NameSuch, ExpressionSuch, AskSuch, PropertySuch, properties_such}
use Rattle.prop_to_jani.proofs.Placed.{such_too}
use Rattle.prop_to_jani.proofs.Lifted.{IsSame, properties_too}
use Rattle.prop_to_jani.proofs.Roles.{part_with, parts_have, same_parts, same_each}
use Rattle.prop_to_jani.proofs.Standing.{things}
use Rattle.prop_to_jani.proofs.Structures.{structures_named, same_structures, same_things, number_of as number_at}
use Rattle.prop_to_jani.proofs.Titled.{titles_distinct, none_empty, none_long, first_entries, titles_once, translated_named, long_name, short_name}
use Rattle.prop_to_jani.proofs.Fitting.{Fits, fits_bare, fits_bared, none_unknown, none_wrong, part_fits, part_such}

-- ---- lists

each_number : (P : Name → Type 0) (xs : List Name) (r : ℕ) → Each P xs → r < length xs → P (get_or xs r [])
each_number P [] r h l = absurd (omega (arith, l))
each_number P (x ∷ xs) zero h l = h.0
each_number P (x ∷ xs) (suc r) h l = each_number P xs r h.1 (omega (arith, l))

no_item : (fs : List Fault) → Each (λ f. ⊥) fs → fs ≡ []
no_item [] h = refl
no_item (f ∷ fs) h = absurd h.0

-- each property with its entry
translated_with : (file : prism.File) (P : PrismProperty → Type 0) (R : Entry → Type 0) (Q : JaniProperty → Type 0) → ((p : PrismProperty) (e : Entry) → P p → R e → Q (translated_property file p e)) →
    (ps : List PrismProperty) (es : List Entry) → Each P ps → Each R es → Each Q (map (λ q. translated_property file q.0 q.1) (zip ps es))
translated_with file P R Q h [] es p r = tt
translated_with file P R Q h (p ∷ ps) [] k r = tt
translated_with file P R Q h (p ∷ ps) (e ∷ es) k r = (h p e k.0 r.0, translated_with file P R Q h ps es k.1 r.1)

-- ---- structures by their names

abbrev number_in : List Name → Name → Option ℕ
number_in rs x = position (λ y. bytes_eq y x) rs

module _ (rewards : List Name) (apart : AreApart rewards) (count : ℕ) (many : length rewards ≡ count) where
  numbered_so : (n : Named) (r : ℕ) → n.name ≡ structure_name rewards r → r < count → number_in rewards n.name ≡ Some r
  numbered_so n r e l = ap (number_in rewards) e ∙ number_at rewards r apart.distinct (omega (arith, many, l))

  structure_known : (a : Ask Expression ℕ) (p : Path Expression) (b : Ask Expression Named) → ask_with bare (λ (n : Named). n.name) b ≡ ask_with bare (structure_name rewards) a → AsksWell count a p →
      flat_map (unknown_structure (number_in rewards)) (if_some (structure_of b)) ≡ []
  structure_known a p greatest e w = refl
  structure_known a p least e w = refl
  structure_known a p (bounded c x) e w = refl
  structure_known (greatest_reward r) p (greatest_reward n) e w =
      let same : n.name ≡ structure_name rewards r = cc in
      append_both (unknown_structure (number_in rewards) n) [] (fault_none (not (is_some (number_in rewards n.name))) n.at Unknown (ap (λ o. not (is_some o)) (numbered_so n r same w.0))) refl
  structure_known (least_reward r) p (least_reward n) e w =
      let same : n.name ≡ structure_name rewards r = cc in
      append_both (unknown_structure (number_in rewards) n) [] (fault_none (not (is_some (number_in rewards n.name))) n.at Unknown (ap (λ o. not (is_some o)) (numbered_so n r same w.0))) refl
  structure_known a p (greatest_reward n) e w = absurd cc
  structure_known a p (least_reward n) e w = absurd cc

  asks_same : (a : Ask Expression ℕ) (p : Path Expression) (b : Ask Expression Named) → ask_with bare (λ (n : Named). n.name) b ≡ ask_with bare (structure_name rewards) a → AsksWell count a p →
      ask_with bare (λ (i : ℕ). i) (ask_with (λ (x : Expression). x) (numbered (number_in rewards)) b) ≡ ask_with bare (λ (i : ℕ). i) a
  asks_same greatest p greatest e w = refl
  asks_same least p least e w = refl
  asks_same (bounded d y) p (bounded c x) e w = let same : c ≡ d = cc in let alike : bare x ≡ bare y = cc in ap₂ (λ f z. bounded f z) same alike
  asks_same (greatest_reward r) p (greatest_reward n) e w =
      let same : n.name ≡ structure_name rewards r = cc in ap (λ o. greatest_reward (or_nought o)) (numbered_so n r same w.0)
  asks_same (least_reward r) p (least_reward n) e w =
      let same : n.name ≡ structure_name rewards r = cc in ap (λ o. least_reward (or_nought o)) (numbered_so n r same w.0)
  asks_same a p b e w = absurd cc

  property_same : (q : JaniProperty) (w : Written) → IsSame rewards q w → AsksWell count q.ask q.path → bare_property (filed_by (number_in rewards) w) ≡ bare_property q
  property_same q w s k =
      let asked = asks_same q.ask q.path w.ask s.asks.ask k in
      let names = s.name in
      let paths = s.asks.path in
      cc

  properties_same : (qs : List JaniProperty) (ws : List Written) → AllZip (IsSame rewards) qs ws → Each (λ q. AsksWell count q.ask q.path) qs → map bare_property (map (filed_by (number_in rewards)) ws) ≡ map bare_property qs
  properties_same [] [] s k = refl
  properties_same [] (w ∷ ws) s k = absurd s
  properties_same (q ∷ qs) [] s k = absurd s
  properties_same (q ∷ qs) (w ∷ ws) s k = ap₂ (λ x xs. x ∷ xs) (property_same q w s.0 k.0) (properties_same qs ws s.1 k.1)

  -- ---- no fault of names and of types
  module _ (things : Name → Option Thing) where
    abbrev Fitting : JaniProperty → Type 0
    Fitting q = Each (Fits things) (parts q) × AsksWell count q.ask q.path

    abbrev Clean : Written → Type 0
    Clean w = (unknown_names things (number_in rewards) w ≡ []) × (wrong_types things w ≡ [])

    clean_one : (q : JaniProperty) (w : Written) → IsSame rewards q w → Fitting q → Clean w
    clean_one q w s k =
        let all = same_parts rewards (Fits things) (fits_bare things) (fits_bared things) q w s k.0 in (
          append_both (flat_map (unknown_structure (number_in rewards)) (if_some (structure_of w.ask))) (flat_map (unknown_in things) (parts w)) (structure_known q.ask q.path w.ask s.asks.ask k.1)
              (each_empty (unknown_in things) (parts w) (each_then (Fits things) (λ x. unknown_in things x ≡ []) (none_unknown things) (parts w) all)),
          each_empty (wrong_in things) (parts w) (each_then (Fits things) (λ x. wrong_in things x ≡ []) (none_wrong things) (parts w) all),
        )

    clean_each : (qs : List JaniProperty) (ws : List Written) → AllZip (IsSame rewards) qs ws → Each Fitting qs → Each Clean ws
    clean_each qs ws s k = same_each rewards Fitting Clean clean_one qs ws s k

    names_clean : (ws : List Written) → doubled TwiceNamed (titles ws) ≡ [] → Each Clean ws → names_wrong things (number_in rewards) ws ≡ []
    names_clean ws d k =
        append_both (doubled TwiceNamed (titles ws)) (flat_map (unknown_names things (number_in rewards)) ws) d
        (each_empty (unknown_names things (number_in rewards)) ws (each_then Clean (λ w. unknown_names things (number_in rewards) w ≡ []) (λ w h. h.0) ws k))

    types_clean : (ws : List Written) → Each Clean ws → types_wrong things ws ≡ []
    types_clean ws k = each_empty (wrong_types things) ws (each_then Clean (λ w. wrong_types things w ≡ []) (λ w h. h.1) ws k)

-- ---- translated properties

module _ (image_seen : TypedImageSeenAlike) (agreeing : AgreeingIsNoNumber) (operands : ImageHasOperands) (c : Checked) (checked : IsChecked c) (ps : List PrismProperty) (of : AreOfPrism c.file ps) where
  abbrev order : List Name
  order = formula_names (at_places c.file.formulas c.order)

  is : IsJudged c.file order
  is = is_judged c checked

  flat_is : IsFlat (flat c.file)
  flat_is = record { checked = flat_is_checked c checked; form = is_written_out c.file }

  abbrev rewards : List Name
  rewards = reward_names (flat c.file)

  abbrev count : ℕ
  count = length c.file.rewards

  abbrev here : Name → Option Thing
  here = things c.file order is flat_is

  abbrev qs : List JaniProperty
  qs = to_jani c.file ps

  abbrev TranslatedPart : (Role × Expression → Type 0) → Role × prism.Expression → Type 0
  TranslatedPart P x = P (part_with (translated_expression c.file) x)

  -- what holds of each part that is translated
  filed_each : (P : Role × Expression → Type 0) → ((x : Role × prism.Expression) → P (x.0, translated_expression c.file (renamed filed_name x.1)) → TranslatedPart P (part_with (renamed filed_name) x)) →
      Each (λ w. Each (λ x. P (x.0, translated_expression c.file (renamed filed_name x.1))) (parts w)) of.sound.written → Each (λ p. Each (TranslatedPart P) (parts p)) ps
  filed_each P h k =
      subst (Each (λ p. Each (TranslatedPart P) (parts p))) of.sound.are
      (each_map (λ w. Each (λ x. P (x.0, translated_expression c.file (renamed filed_name x.1))) (parts w)) (λ p. Each (TranslatedPart P) (parts p)) (written_filed c.file)
      (λ w r. parts_have (renamed filed_name) (TranslatedPart P) (number_of c.file) w.ask w.path
      (each_then (λ x. P (x.0, translated_expression c.file (renamed filed_name x.1))) (λ x. TranslatedPart P (part_with (renamed filed_name) x)) h (parts w) r)) of.sound.written k)

  abbrev AsksSo : PrismProperty → Type 0
  AsksSo p = AsksWell count p.ask p.path

  asks_each : Each AsksSo ps
  asks_each = each_then (PropertyForm arity count) AsksSo (λ p f. f.asks) ps of.form

  fitting_each : Each (Fitting rewards (rewards_apart (flat c.file)) count (rewards_many c.file) here) qs
  fitting_each =
      translated_with c.file (λ p. Each (TranslatedPart (Fits here)) (parts p) × AsksSo p) (λ e. Unit {0}) (Fitting rewards (rewards_apart (flat c.file)) count (rewards_many c.file) here)
      (λ p e k u. (parts_have (translated_expression c.file) (Fits here) (λ i. i) p.ask p.path k.0, asks_with (translated_expression c.file) count p.ask p.path k.1)) ps (property_entries (flat c.file) ps)
      (each_with (λ p. Each (TranslatedPart (Fits here)) (parts p)) AsksSo (λ p. Each (TranslatedPart (Fits here)) (parts p) × AsksSo p) (λ p a b. (a, b)) ps
      (filed_each (Fits here) (λ x k. k)
      (sound_each c.file (λ x. Fits here (x.0, translated_expression c.file (renamed filed_name x.1))) (part_fits c.file order is flat_is image_seen agreeing) ps of.sound)) asks_each)
      (any_entry (property_entries (flat c.file) ps))
    where
      any_entry : (es : List Entry) → Each (λ e. Unit {0}) es
      any_entry [] = tt
      any_entry (e ∷ es) = (tt, any_entry es)

  asks_well : Each (λ q. AsksWell count q.ask q.path) qs
  asks_well = each_then (Fitting rewards (rewards_apart (flat c.file)) count (rewards_many c.file) here) (λ q. AsksWell count q.ask q.path) (λ q k. k.1) qs fitting_each

  -- ---- shape
  module _ (Such : Reason → Type 0) (fit : Each (λ e. NameSuch Such e.name) (all_entries (flat c.file) ps)) where
    own_fit : Each (λ e. NameSuch Such e.name) (entries (flat c.file))
    own_fit = subst (Each (λ e. NameSuch Such e.name)) (first_entries (flat c.file) ps) (each_take (λ e. NameSuch Such e.name) (length (asks (flat c.file))) (all_entries (flat c.file) ps) fit)

    rewards_such : Each (NameSuch Such) rewards
    rewards_such =
        each_map (λ e. NameSuch Such e.name) (NameSuch Such) (λ e. e.name) (λ e k. k) (new_names (flat c.file)).rewards
        (each_take (λ e. NameSuch Such e.name) (length (flat c.file).rewards) _
        (each_drop (λ e. NameSuch Such e.name) (rewards_at (flat c.file) (entries (flat c.file))) (entries (flat c.file)) own_fit))

    ask_such : (a : Ask prism.Expression ℕ) (p : Path prism.Expression) → AsksWell count a p → AskSuch Such (λ x. false) rewards (ask_with (translated_expression c.file) (λ i. i) a)
    ask_such (greatest_reward r) p w = let m = rewards_many c.file in let l = w.0 in each_number (NameSuch Such) rewards r rewards_such (omega (arith, m, l))
    ask_such (least_reward r) p w = let m = rewards_many c.file in let l = w.0 in each_number (NameSuch Such) rewards r rewards_such (omega (arith, m, l))
    ask_such greatest p w = tt
    ask_such least p w = tt
    ask_such (bounded d e) p w = tt

    such_each : (given : List ℕ → Bool) → Each (PropertySuch Such given rewards count) qs
    such_each given =
        translated_with c.file (λ p. Each (TranslatedPart (λ x. ExpressionSuch Such x.1)) (parts p) × AsksSo p) (λ e. NameSuch Such e.name) (PropertySuch Such given rewards count)
        (λ p e k n. record {
          name = e.name;
          named = refl;
          title = n;
          expressions = parts_have (translated_expression c.file) (λ x. ExpressionSuch Such x.1) (λ i. i) p.ask p.path k.0;
          asks = asks_with (translated_expression c.file) count p.ask p.path k.1;
          structure = ask_such p.ask p.path k.1;
        }) ps (property_entries (flat c.file) ps)
        (each_with (λ p. Each (TranslatedPart (λ x. ExpressionSuch Such x.1)) (parts p)) AsksSo (λ p. Each (TranslatedPart (λ x. ExpressionSuch Such x.1)) (parts p) × AsksSo p) (λ p a b. (a, b)) ps
        (filed_each (λ x. ExpressionSuch Such x.1) (λ x k. k)
        (sound_each c.file (λ x. ExpressionSuch Such (translated_expression c.file (renamed filed_name x.1))) (part_such c.file order is flat_is image_seen agreeing Such own_fit operands) ps of.sound)) asks_each)
        (each_drop (λ e. NameSuch Such e.name) (length (asks (flat c.file))) (all_entries (flat c.file) ps) fit)

    shape_such : (given : List ℕ → Bool) (v : Node) → bare_node v ≡ bare_node (to_jani_node c.file ps) → AreSuch Such (faults given F.Properties v)
    shape_such given v e = such_too given Such v (to_jani_node c.file ps) F.Properties e (properties_such Such given rewards count qs (such_each given))

  -- ---- the file
  module _ (file : jani.File) (clean : judged.IsChecked file) (e : bare_file file ≡ bare_file (with_properties (translated (flat c.file)) (to_jani_node c.file ps))) where
    abbrev full : jani.File
    full = with_properties (translated (flat c.file)) (to_jani_node c.file ps)

    named : structures file ≡ rewards
    named = same_structures file full e ∙ structures_named (flat c.file)

    same_value : bare_node file.properties ≡ bare_node (to_jani_node c.file ps)
    same_value = ap (λ f. f.properties) e

    back : (ws : List Written) × AllZip (IsSame rewards) qs ws × AreWritten file.properties ws
    back = properties_too rewards file.properties (to_jani_node c.file ps) qs same_value (translated_spelled operands c checked ps of).spells

    cleans : Each (Clean rewards (rewards_apart (flat c.file)) count (rewards_many c.file) here) back.0
    cleans = clean_each rewards (rewards_apart (flat c.file)) count (rewards_many c.file) here qs back.0 back.1 fitting_each

    once : doubled TwiceNamed (titles back.0) ≡ []
    once =
        titles_once rewards qs back.0 (map (λ e. e.name) (property_entries (flat c.file) ps)) back.1
        (translated_named c.file ps (property_entries (flat c.file) ps) (entries_each c.file one_each ps)) (titles_distinct (flat c.file) ps)

    no_names : name_faults file back.0 ≡ []
    no_names =
        ap₂ (λ t rs. names_wrong t (number_in rs) back.0) (same_things file full e) named
        ∙ names_clean rewards (rewards_apart (flat c.file)) count (rewards_many c.file) here back.0 once cleans

    no_types : type_faults file back.0 ≡ []
    no_types =
        ap (λ t. types_wrong t back.0) (same_things file full e)
        ∙ types_clean rewards (rewards_apart (flat c.file)) count (rewards_many c.file) here back.0 cleans

    empty_apart : Each (λ u. u.name ≡ [] → ⊥) (all_entries (flat c.file) ps)
    empty_apart = none_empty (flat c.file) ps

    is_read_back : IsReadBack c ps file
    is_read_back = record {
      rewards = named;
      long = shape_such (λ r. r ≡ TooLong)
          (each_then (λ u. u.name ≡ [] → ⊥) (λ u. NameSuch (λ r. r ≡ TooLong) u.name) (λ u h. long_name u.name h) (all_entries (flat c.file) ps) empty_apart)
          (is_among (given_names file)) file.properties same_value;
      short = λ l. no_item (shape_faults file)
          (shape_such (λ r. ⊥)
          (each_with (λ u. u.name ≡ [] → ⊥) (λ u. length u.name ≤ 255) (λ u. NameSuch (λ r. ⊥) u.name) (λ u h k. short_name u.name h k) (all_entries (flat c.file) ps) empty_apart (none_long (flat c.file) ps l))
          (is_among (given_names file)) file.properties same_value);
      properties = map (filed file) back.0;
      same =
          ap (λ rs. map bare_property (map (filed_by (number_in rs)) back.0)) named
          ∙ properties_same rewards (rewards_apart (flat c.file)) count (rewards_many c.file) qs back.0 back.1 asks_well;
      sound = record { written = back.0; are = refl; names = no_names; types = no_types };
      read = λ s. all_read file clean back.0 s back.2 no_names no_types;
    }

pub translated_read_back : TypedImageSeenAlike → AgreeingIsNoNumber → ImageHasOperands → TranslatedReadBack
translated_read_back image_seen agreeing operands c checked ps of file clean e = is_read_back image_seen agreeing operands c checked ps of file clean e
