-- New names of one space differ: so there is an action for each target of a file, and no two actions have one name.
use Rattle.std.specs.Prelude.{◌≡◌, ◌+◌, ◌≤◌, List, [], ◌∷◌, ◌++◌, map, length, drop, bytes_eq, slice_get}
use Rattle.std.specs.List.{zip}
use Rattle.std.proofs.Common.{refl, sym, ap, ◌∙◌, arith, subst, append-nil, take_all, length-append, length-drop}
use Rattle.std.proofs.lemmas.Slice.Eq.{bytes_eq-Decides}
use Rattle.std.proofs.lemmas.Slice.Zip.{firsts-zip}
use Rattle.std.proofs.lemmas.List.{length-map}
use Rattle.basics.specs.Lists.{slice_get-append_add}
use Rattle.process_core.specs.Product.{map-map}
use Rattle.process_core.proofs.Targets.{Distinct}
use Rattle.jani_tree.specs.Syntax.{File, element_names}
use Rattle.jani_meaning.specs.Elements.{lasting, labels, structures}
use Rattle.name_table.specs.declared.class.NameClass.TheVariants.{Variable, Action, Label, Reward}
use Rattle.name_table.specs.declared.class.Target.TheVariants.{Prism}
use Rattle.name_table.specs.declared.entry.Entry.{Entry}
use Rattle.name_table.specs.Rule.{space}
use Rattle.name_table.specs.Entries.{Ask}
use Rattle.name_table.proofs.EntryLemmas.{one_each}
use Rattle.name_table.proofs.Parts.{first_have, IsPart, part}
use Rattle.name_table.specs.Asks.{some_from}
use Rattle.name_table.specs.PrismAsks.{ask_for, constant_ask, location_ask, module_ask, asks, actions_at}
use Rattle.prism_translation.specs.Targets.{Target, targets}
use Rattle.prism_translation.specs.Names.{action_ask, all_asks, entries, new_names}
use Rattle.prism_translation.specs.Modules.{Action as Named, actions}
use Rattle.prism_translation.proofs.Actions.{AreDistinct}

-- ---- the actions of a file
module _ (file : File) where
  abbrev action_asks : List Ask
  action_asks = map action_ask (targets file)

  -- no other entries stand behind those of actions
  pub asks_length : length (asks file) ≡ actions_at file
  asks_length =
      let a = map constant_ask file.constants in
      let b = map (ask_for Variable) (lasting file) in
      let c = map location_ask (element_names file) in
      let d = map module_ask (element_names file) in
      let e = map (ask_for Label) (labels file) in
      let f = map (ask_for Reward) (structures file) in
      let p = length-append a (b ++ (c ++ (d ++ (e ++ f)))) in
      let q = length-append b (c ++ (d ++ (e ++ f))) in
      let r = length-append c (d ++ (e ++ f)) in
      let s = length-append d (e ++ f) in
      let t = length-append e f in
      let i = length-map file.constants constant_ask in
      let j = length-map (lasting file) (ask_for Variable) in
      let k = length-map (element_names file) location_ask in
      let l = length-map (element_names file) module_ask in
      let m = length-map (labels file) (ask_for Label) in
      let n = length-map (structures file) (ask_for Reward) in
      omega arith

  actions_part : IsPart Prism Action (length (targets file)) (some_from (actions_at file) (length (targets file)) (entries file))
  actions_part =
      part Prism (all_asks file) Action (actions_at file) (length (targets file))
      (let a = length-append (asks file) action_asks in let b = length-map (targets file) action_ask in let d = asks_length in omega arith)
      (λ i a l g.
      first_have (λ c. space Prism c ≡ space Prism Action) action_ask (λ t. refl) (targets file) [] 0 (λ j b m h. absurd (omega arith)) i a (omega arith)
      (ap (λ as_. slice_get as_ i) (append-nil action_asks) ∙ sym (slice_get-append_add (asks file) action_asks (actions_at file) i asks_length) ∙ g))

  action_entries : (new_names file).actions ≡ some_from (actions_at file) (length (targets file)) (entries file)
  action_entries = sym (take_all (length (targets file)) (drop (actions_at file) (entries file)) whole_le)
    where
      whole_le : length (drop (actions_at file) (entries file)) ≤ length (targets file)
      whole_le =
          let a = length-drop (actions_at file) (entries file) in
          let b = one_each Prism (all_asks file) in
          let c = length-append (asks file) action_asks in
          let d = asks_length in
          let e = length-map (targets file) action_ask in
          omega arith

  entries_length : length (new_names file).actions ≡ length (targets file)
  entries_length = ap length action_entries ∙ actions_part.long

  -- there is an action for each target, in order
  pub made_for : map (λ t. t.target) (actions file (new_names file)) ≡ targets file
  made_for = map-map (λ (t : Named). t.target) (λ p. record { target = p.0; name = p.1.name }) (zip (targets file) (new_names file).actions) ∙ firsts-zip (targets file) (new_names file).actions entries_length

  names_of_zip : (ts : List Target) (es : List Entry) → length es ≡ length ts → map (λ (t : Named). t.name) (map (λ p. record { target = p.0; name = p.1.name }) (zip ts es)) ≡ map (λ e. e.name) es
  names_of_zip [] [] h = refl
  names_of_zip [] (e ∷ es) h = absurd (let no : ⊥ = omega arith in no)
  names_of_zip (t ∷ ts) [] h = absurd (let no : ⊥ = omega arith in no)
  names_of_zip (t ∷ ts) (e ∷ es) h = ap (λ l. e.name ∷ l) (names_of_zip ts es (omega arith))

  -- and no two have one name
  pub actions_differ : AreDistinct (actions file (new_names file))
  actions_differ =
      subst (λ ns. Distinct bytes_eq bytes_eq-Decides ns)
      (sym (names_of_zip (targets file) (new_names file).actions entries_length ∙ ap (map (λ (e : Entry). e.name)) action_entries))
      actions_part.distinct
