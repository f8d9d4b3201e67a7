-- Written properties that are the same as translated ones: no fault of names and of types is in them, and each query of rewards names the structure
-- that is meant.
use Rattle.std.specs.Prelude.{◌≡◌, ◌<◌, ℕ, zero, suc, List, [], ◌∷◌, ◌++◌, map, length, take, false, not, Option, Some, None, is_some, slice_get, unwrap_or, bytes_eq}
use Rattle.std.specs.List.{AllByRecursion as Each, AllZip, flat_map}
use Rattle.std.specs.Option.{option_map}
use Rattle.std.proofs.Common.{refl, sym, ap, ap₂, subst, ◌∙◌, arith, append-nil, length-append}
use Rattle.std.proofs.lemmas.List.{length-map, take_all}
use Rattle.std.proofs.lemmas.List.Elements.{recursion_from_All}
use Rattle.std.proofs.lemmas.Option.{slice_get-map}
use Rattle.std.proofs.lemmas.Slice.Eq.{bytes_eq-Decides}
use Rattle.basics.specs.Each.{each_then, each_with, each_map, each_join, each_parts, each_flat, each_empty, empty_each}
use Rattle.basics.specs.Lists.{append_both, slice_get-append_add, slice_get-take}
use Rattle.basics.specs.Options.{if_some}
use Rattle.bridge_io.specs.declared.reason.Named.{Named}
use Rattle.bridge_io.specs.declared.reason.Fault.{Fault}
use Rattle.bridge_io.specs.declared.reason.Reason.TheVariants.{TwiceNamed, Unknown}
use Rattle.name_rules.specs.Doubled.{doubled}
use Rattle.name_rules.proofs.Plain.{Apart, fault_none, not_doubled}
use Rattle.process_core.proofs.Targets.{Distinct}
use Rattle.prism_tree.specs.Syntax as prism
use Rattle.prism_print.specs.Same.{bare_file}
use Rattle.jani_tree.specs.Syntax.{Expression, File}
use Rattle.jani_check.specs.Things.{global_thing}
use Rattle.jani_check.specs.Faults.{IsChecked}
use Rattle.jani_meaning.specs.Elements as all
use Rattle.jani_meaning.specs.Elements.{Owned}
use Rattle.name_table.specs.declared.class.NameClass.TheVariants.{Property as OfProperty}
use Rattle.name_table.specs.declared.class.Target.TheVariants.{Prism}
use Rattle.name_table.specs.declared.entry.Entry.{Entry}
use Rattle.name_table.specs.Rule.{space}
use Rattle.name_table.specs.Entries.{Ask as Wanted}
use Rattle.name_table.specs.Asks.{called, some_from}
use Rattle.name_table.specs.PrismAsks.{asks}
use Rattle.name_table.proofs.Parts.{IsPart, part, first_have}
use Rattle.prism_translation.specs.Translated.{translated}
use Rattle.prop_grammar.specs.declared.syntax.Structure.{Structure}
use Rattle.prop_grammar.specs.Property.{Ask, greatest, least, bounded, greatest_reward, least_reward, Path}
use Rattle.prop_grammar.specs.Syntax.{WrittenProperty}
use Rattle.prop_trees.specs.Trees.{Name, JaniProperty, Role, parts, ask_parts, path_parts, structure_of, ask_with, SameAsk}
use Rattle.prop_trees.specs.Form.{AsksWell, JaniForm}
use Rattle.prop_trees.specs.PrismFaults as prism_faults
use Rattle.prop_trees.specs.PrismFaults.{titles, all_parts, number_by, structure_number, unknown_structure, unknown_in, name_faults, part_faults, type_faults}
use Rattle.prop_trees.specs.Text.{structure_name}
use Rattle.prop_trees.specs.Back.{SameExpression, with_names, names_written, SameWritten}
use Rattle.jani_props.specs.Syntax.{Written}
use Rattle.jani_props.specs.Faults.{structures, wrong_in, wrong_types, filed}
use Rattle.jani_props.specs.Reading.{AreSound}
use Rattle.prop_to_prism.specs.ToPrism.{new_names, reward_names, property_asks, all_entries, property_entries, translated_expression, translated_property, with_entries}
use Rattle.prop_to_prism.specs.Laws.{IsOfStructure, IfOfStructure}
use Rattle.prop_to_prism.proofs.Agreeing.{IsKnown, HasKnown, all_known, filed_parts, entries_each}
use Rattle.prop_to_prism.proofs.Faultless.{HasNone, IsRight, ask_carried, path_carried}
use Rattle.prop_to_prism.proofs.Printing.{few_structures}
use Rattle.prop_to_prism.proofs.ReadBack.{number_there}
use Rattle.prop_to_prism.proofs.Structures.{numbered_first}
use Rattle.prop_to_prism.proofs.Texts.{name_numbered}

-- ---- the expressions of properties
module _ (file : File) (checked : IsChecked file) where
  abbrev AreNotWrong : JaniProperty → Type 0
  AreNotWrong p = Each (λ x. wrong_in (global_thing file) x ≡ []) (parts p)

  not_wrong : (p : Written) → wrong_types (global_thing file) p ≡ [] → AreNotWrong (filed file p)
  not_wrong p k =
      subst (λ (xs : List (Role × Expression)). Each (λ x. wrong_in (global_thing file) x ≡ []) xs) (sym (filed_parts file p)) (empty_each (wrong_in (global_thing file)) (parts p) k)

  -- the phases of names and types find nothing in them
  abbrev AreRight : JaniProperty → Type 0
  AreRight p = Each (IsRight file checked) (parts p)

  pub all_right : (ps : List JaniProperty) → AreSound file ps → Each AreRight ps
  all_right ps sound =
      each_with AreNotWrong (λ p. HasKnown file (parts p)) AreRight
      (λ p. each_with (λ x. wrong_in (global_thing file) x ≡ []) (λ x. IsKnown file x.1) (IsRight file checked) (λ x w k. (w, k)) (parts p)) ps
      (subst (λ (qs : List JaniProperty). Each AreNotWrong qs) sound.are
      (each_map (λ w. wrong_types (global_thing file) w ≡ []) AreNotWrong (filed file) not_wrong sound.written (empty_each (wrong_types (global_thing file)) sound.written sound.types)))
      (all_known file ps sound)

  module _ (model : prism.File) (same : bare_file model ≡ bare_file (translated file)) (rewards : List Name) where
    abbrev HaveNone : WrittenProperty → Type 0
    HaveNone w = Each (HasNone model) (parts w)

    written_none : (p : JaniProperty) (e : Entry) (w : WrittenProperty) → AreRight p → SameWritten rewards (translated_property file p e) w → HaveNone w
    written_none p e w h s =
        let r = each_parts (IsRight file checked) (ask_parts p.ask) (path_parts p.path) h in
        each_join (HasNone model) (ask_parts w.ask) (path_parts w.path) (ask_carried file checked model same rewards p.ask w.ask s.ask r.0) (path_carried file checked model same p.path w.path s.path r.1)

    pub all_none : (ps : List JaniProperty) (es : List Entry) (ws : List WrittenProperty) → Each AreRight ps → AllZip (SameWritten rewards) (with_entries file ps es) ws → Each HaveNone ws
    all_none [] es [] h s = tt
    all_none [] es (w ∷ ws) h s = absurd s
    all_none (p ∷ ps) [] [] h s = tt
    all_none (p ∷ ps) [] (w ∷ ws) h s = absurd s
    all_none (p ∷ ps) (e ∷ es) [] h s = absurd s
    all_none (p ∷ ps) (e ∷ es) (w ∷ ws) h s = (written_none p e w h.0 s.0, all_none ps es ws h.1 s.1)

-- ---- their names
apart : (xs : List Name) → Distinct bytes_eq bytes_eq-Decides xs → Apart xs
apart [] d = tt
apart (x ∷ xs) d = (recursion_from_All (λ y. bytes_eq x y ≡ false) xs d.0, apart xs d.1)

abbrev property_ask : JaniProperty → Wanted
property_ask p = (OfProperty, p.name)

module _ (file : File) where
  properties_part : (ps : List JaniProperty) → IsPart Prism OfProperty (length ps) (some_from (length (asks file)) (length ps) (all_entries file ps))
  properties_part ps =
      part Prism (asks file ++ property_asks ps) OfProperty (length (asks file)) (length ps)
      (let a = length-append (asks file) (property_asks ps) in let m = length-map ps property_ask in omega (arith, a, m))
      (λ i a l g.
      first_have (λ c. space Prism c ≡ space Prism OfProperty) property_ask (λ p. refl) ps [] 0 (λ j b m h. absurd (omega (arith, m))) i a (omega (arith, l))
      (ap (λ as_. slice_get as_ i) (append-nil (property_asks ps)) ∙ sym (slice_get-append_add (asks file) (property_asks ps) (length (asks file)) i refl) ∙ g))

  names_differ : (ps : List JaniProperty) → Distinct bytes_eq bytes_eq-Decides (map (λ (e : Entry). e.name) (property_entries file ps))
  names_differ ps =
      subst (λ es. Distinct bytes_eq bytes_eq-Decides (map (λ (e : Entry). e.name) es)) (take_all (length ps) (property_entries file ps) (let l = entries_each file ps in omega (arith, l)))
      (properties_part ps).distinct

  module _ (rewards : List Name) where
    titled : (ps : List JaniProperty) (es : List Entry) (ws : List WrittenProperty) → length es ≡ length ps → AllZip (SameWritten rewards) (with_entries file ps es) ws →
        map (λ (n : Named). n.name) (titles ws) ≡ map (λ (e : Entry). e.name) es
    titled [] [] [] l s = refl
    titled [] [] (w ∷ ws) l s = absurd s
    titled [] (e ∷ es) ws l s = absurd (omega (arith, l))
    titled (p ∷ ps) [] ws l s = absurd (omega (arith, l))
    titled (p ∷ ps) (e ∷ es) [] l s = absurd s
    titled (p ∷ ps) (e ∷ es) (w ∷ ws) l s = by_name w.name s.0.name (titled ps es ws (omega (arith, l)) s.1)
      where
        by_name : (o : Option Named) → option_map (λ x. x.name) o ≡ Some e.name → map (λ (n : Named). n.name) (titles ws) ≡ map (λ (u : Entry). u.name) es →
            map (λ (n : Named). n.name) (if_some o ++ titles ws) ≡ e.name ∷ map (λ (u : Entry). u.name) es
        by_name None k rest = absurd cc
        by_name (Some n) k rest = let is : n.name ≡ e.name = cc in ap₂ (λ x xs. x ∷ xs) is rest

    pub none_doubled : (ps : List JaniProperty) (ws : List WrittenProperty) → AllZip (SameWritten rewards) (with_entries file ps (property_entries file ps)) ws → doubled TwiceNamed (titles ws) ≡ []
    none_doubled ps ws s =
        let es = property_entries file ps in
        not_doubled TwiceNamed (titles ws) (subst Apart (sym (titled ps es ws (entries_each file ps) s)) (apart (map (λ (e : Entry). e.name) es) (names_differ ps)))

-- ---- their reward structures
stands_there : {A : Type 0} (xs : List A) (i : ℕ) → i < length xs → (x : A) × (slice_get xs i ≡ Some x)
stands_there [] i l = absurd (omega (arith, l))
stands_there (x ∷ xs) zero l = (x, refl)
stands_there (x ∷ xs) (suc i) l = stands_there xs i (omega (arith, l))

module _ (file : File) (checked : IsChecked file) (model : prism.File) (named : map (λ r. called r.name) model.rewards ≡ map Some (reward_names file)) where
  of_structure : (r : ℕ) (s : Structure) → r < length (structures file) → Some (structure_name (reward_names file) r) ≡ s.name → IsOfStructure file model r s
  of_structure r s l h =
      let k = length (structures file) in
      let os = take k (all.structures file) in
      let rewards = (new_names file).rewards in
      let n = ap length (numbered_first file) in
      let m = length-map os (λ (o : Owned). o.var.name.name) in
      let few = few_structures file checked in
      let names = length-map rewards (λ (e : Entry). e.name) in
      let o = stands_there os r (omega (arith, l, n, m)) in
      let e = stands_there rewards r (omega (arith, l, few, names)) in
      record {
        transient = o.0;
        stands = (slice_get-take k r (all.structures file) o.0 o.1).1;
        counted =
            ap (λ (xs : List Name). slice_get xs r) (sym (numbered_first file))
            ∙ slice_get-map (λ (o : Owned). o.var.name.name) os r
            ∙ ap (option_map (λ (o : Owned). o.var.name.name)) o.1;
        entry = e.0;
        entered = e.1;
        named = sym h ∙ ap Some (sym (name_numbered rewards r) ∙ ap (λ (o : Option Entry). unwrap_or (option_map (λ (e : Entry). e.name) o) []) e.1);
        bears =
            ap (λ (xs : List (Option Name)). slice_get xs r) named
            ∙ slice_get-map Some (reward_names file) r
            ∙ ap (option_map Some) (slice_get-map (λ (e : Entry). e.name) rewards r ∙ ap (option_map (λ (e : Entry). e.name)) e.1);
        found = ap (number_by model) (sym h) ∙ number_there file model named r (omega (arith, l, few));
      }

  asks_alike : (a : Ask Expression ℕ) (b : Ask prism.Expression Structure) (p : Path Expression) → AsksWell (length (structures file)) a p →
      SameAsk SameExpression (with_names (reward_names file) (ask_with (translated_expression file) (λ i. i) a)) (names_written b) → IfOfStructure file model (structure_of a) (structure_of b)
  asks_alike greatest greatest p w h = tt
  asks_alike greatest least p w h = absurd h
  asks_alike greatest (bounded d x) p w h = absurd h
  asks_alike greatest (greatest_reward s) p w h = absurd h
  asks_alike greatest (least_reward s) p w h = absurd h
  asks_alike least greatest p w h = absurd h
  asks_alike least least p w h = tt
  asks_alike least (bounded d x) p w h = absurd h
  asks_alike least (greatest_reward s) p w h = absurd h
  asks_alike least (least_reward s) p w h = absurd h
  asks_alike (bounded c e) greatest p w h = absurd h
  asks_alike (bounded c e) least p w h = absurd h
  asks_alike (bounded c e) (bounded d x) p w h = tt
  asks_alike (bounded c e) (greatest_reward s) p w h = absurd h
  asks_alike (bounded c e) (least_reward s) p w h = absurd h
  asks_alike (greatest_reward r) greatest p w h = absurd h
  asks_alike (greatest_reward r) least p w h = absurd h
  asks_alike (greatest_reward r) (bounded d x) p w h = absurd h
  asks_alike (greatest_reward r) (greatest_reward s) p w h = of_structure r s w.0 h
  asks_alike (greatest_reward r) (least_reward s) p w h = absurd h
  asks_alike (least_reward r) greatest p w h = absurd h
  asks_alike (least_reward r) least p w h = absurd h
  asks_alike (least_reward r) (bounded d x) p w h = absurd h
  asks_alike (least_reward r) (greatest_reward s) p w h = absurd h
  asks_alike (least_reward r) (least_reward s) p w h = of_structure r s w.0 h

  abbrev StructuresMeant : JaniProperty → WrittenProperty → Type 0
  StructuresMeant p w = IfOfStructure file model (structure_of p.ask) (structure_of w.ask)

  pub all_alike : (ps : List JaniProperty) (es : List Entry) (ws : List WrittenProperty) → length es ≡ length ps → Each (JaniForm (length (structures file))) ps →
      AllZip (SameWritten (reward_names file)) (with_entries file ps es) ws → AllZip StructuresMeant ps ws
  all_alike [] es [] l f s = tt
  all_alike [] es (w ∷ ws) l f s = absurd s
  all_alike (p ∷ ps) [] ws l f s = absurd (omega (arith, l))
  all_alike (p ∷ ps) (e ∷ es) [] l f s = absurd s
  all_alike (p ∷ ps) (e ∷ es) (w ∷ ws) l f s = (asks_alike p.ask w.ask p.path f.0.asks s.0.ask, all_alike ps es ws (omega (arith, l)) f.1 s.1)

  abbrev AreFound : WrittenProperty → Type 0
  AreFound w = Each (λ s. unknown_structure model s ≡ []) (if_some (structure_of w.ask))

  found_in : (r : Option ℕ) (s : Option Structure) → IfOfStructure file model r s → Each (λ s. unknown_structure model s ≡ []) (if_some s)
  found_in None None h = tt
  found_in None (Some s) h = absurd h
  found_in (Some r) None h = absurd h
  found_in (Some r) (Some s) h = (fault_none (not (is_some (structure_number model s))) s.at Unknown (ap (λ (o : Option ℕ). not (is_some o)) h.found), tt)

  all_found : (ps : List JaniProperty) (ws : List WrittenProperty) → AllZip StructuresMeant ps ws → Each AreFound ws
  all_found [] [] h = tt
  all_found [] (w ∷ ws) h = absurd h
  all_found (p ∷ ps) [] h = absurd h
  all_found (p ∷ ps) (w ∷ ws) h = (found_in (structure_of p.ask) (structure_of w.ask) h.0, all_found ps ws h.1)

  pub none_lost : (ps : List JaniProperty) (ws : List WrittenProperty) → AllZip StructuresMeant ps ws → flat_map (unknown_structure model) (prism_faults.structures ws) ≡ []
  none_lost ps ws h =
      each_empty (unknown_structure model) (prism_faults.structures ws)
      (each_flat AreFound (λ s. unknown_structure model s ≡ []) (λ w. if_some (structure_of w.ask)) (λ w f. f) ws (all_found ps ws h))

-- ---- no fault of all of them
module _ (model : prism.File) where
  parts_none : (f : Role × prism.Expression → List Fault) → ((x : Role × prism.Expression) → HasNone model x → f x ≡ []) → (ws : List WrittenProperty) → Each (λ w. Each (HasNone model) (parts w)) ws →
      flat_map f (all_parts ws) ≡ []
  parts_none f h ws n = each_empty f (all_parts ws) (each_flat (λ w. Each (HasNone model) (parts w)) (λ x. f x ≡ []) parts (λ w. each_then (HasNone model) (λ x. f x ≡ []) h (parts w)) ws n)

  pub no_name_faults : (ws : List WrittenProperty) → doubled TwiceNamed (titles ws) ≡ [] → flat_map (unknown_structure model) (prism_faults.structures ws) ≡ [] →
      Each (λ w. Each (HasNone model) (parts w)) ws → name_faults model ws ≡ []
  no_name_faults ws d l n =
      append_both (doubled TwiceNamed (titles ws)) _ d
      (append_both (flat_map (unknown_structure model) (prism_faults.structures ws)) (flat_map (unknown_in model) (all_parts ws)) l (parts_none (unknown_in model) (λ x h. h.0) ws n))

  pub no_type_faults : (ws : List WrittenProperty) → Each (λ w. Each (HasNone model) (parts w)) ws → type_faults model ws ≡ []
  no_type_faults ws n = parts_none (part_faults model) (λ x h. h.1) ws n
