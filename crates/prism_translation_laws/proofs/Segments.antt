-- The entries of one class of a file: as many as were asked for, whose names differ.
use Rattle.std.specs.Prelude.{◌≡◌, ◌<◌, ◌≤◌, ℕ, ◌+◌, List, [], ◌++◌, map, length, drop, false, slice_get, get_or, unwrap_or}
use Rattle.std.proofs.Common.{refl, sym, ap, subst, ◌∙◌, arith, append-nil, length-append}
use Rattle.std.specs.Option.{option_map}
use Rattle.std.proofs.lemmas.Option.{slice_get-get_or}
use Rattle.std.proofs.lemmas.List.{length-map}
use Rattle.basics.specs.Each.{each_take, each_drop, at_each}
use Rattle.basics.specs.Lists.{slice_get-append_add, slice_get-front}
use Rattle.prism_lex.specs.declared.token.TokenKind.TheVariants.{Ident}
use Rattle.prism_lex.specs.Tokens.{IsKind}
use Rattle.std.specs.List.{AllByRecursion as Each}
use Rattle.jani_tree.specs.Syntax.{File, element_names}
use Rattle.jani_meaning.specs.Elements.{lasting, labels, structures}
use Rattle.prism_translation.specs.NameClass.{NameClass}
use Rattle.prism_translation.specs.NameClass.TheVariants.{Constant, Variable, Location, Module, Label, Reward}
use Rattle.prism_translation.specs.Target.TheVariants.{Prism}
use Rattle.prism_translation.specs.Entry.{Entry}
use Rattle.prism_translation.specs.Rule.{space}
use Rattle.prism_translation.specs.Entries.{Ask}
use Rattle.prism_translation.specs.Asks.{some_from}
use Rattle.prism_translation.specs.PrismAsks.{NewNames, name_at, ask_for, constant_ask, location_ask, module_ask, asks, locations_at, modules_at, labels_at, rewards_at, actions_at}
use Rattle.prism_translation.proofs.Parts.{first_have, IsPart, part}
use Rattle.prism_translation.specs.Targets.{targets}
use Rattle.prism_translation.specs.Names.{action_ask, all_asks, entries, new_names}
use Rattle.prism_translation.proofs.Apart.{asks_length}
use Rattle.prism_translation_laws.proofs.Entries.{IsValidName, all_valid}

-- what is read past the end of a list of entries
nothing : Entry
nothing = record { class = Constant; name = []; kept = false }

-- ---- names at places
-- the name at a place is that of the entry there
pub name_there : (es : List Entry) (i : ℕ) (d : Entry) → i < length es → name_at es i ≡ (get_or es i d).name
name_there es i d l = ap (λ o. unwrap_or (option_map (λ (e : Entry). e.name) o) []) (slice_get-get_or es i d l)

name_spelled : (es : List Entry) (i : ℕ) (d : Entry) → Each IsValidName es → i < length es → IsKind (name_at es i) Ident
name_spelled es i d h l =
    subst (λ x. IsKind x Ident) (sym (name_there es i d l)) (at_each IsValidName es i (get_or es i d) h (slice_get-get_or es i d l)).spelled

-- ---- a file
module _ (file : File) where
  abbrev names : NewNames
  names = new_names file

  pub valid_from : (at n : ℕ) → Each IsValidName (some_from at n (entries file))
  valid_from at n = each_take IsValidName n (drop at (entries file)) (each_drop IsValidName at (entries file) (all_valid (all_asks file)))

  pub valid_actions : Each IsValidName names.actions
  valid_actions = each_drop IsValidName (actions_at file) (entries file) (all_valid (all_asks file))

  -- ---- the entries of each class
  abbrev from_rewards : List Ask
  from_rewards = map (ask_for Reward) (structures file)

  abbrev from_labels : List Ask
  from_labels = map (ask_for Label) (labels file) ++ from_rewards

  abbrev from_modules : List Ask
  from_modules = map module_ask (element_names file) ++ from_labels

  abbrev from_locations : List Ask
  from_locations = map location_ask (element_names file) ++ from_modules

  abbrev from_variables : List Ask
  from_variables = map (ask_for Variable) (lasting file) ++ from_locations

  behind_constants : (i : ℕ) → slice_get (asks file) (length file.constants + i) ≡ slice_get from_variables i
  behind_constants i = slice_get-append_add (map constant_ask file.constants) from_variables (length file.constants) i (length-map file.constants constant_ask)

  behind_variables : (i : ℕ) → slice_get (asks file) (locations_at file + i) ≡ slice_get from_locations i
  behind_variables i =
      let m = length (lasting file) in
      let re : locations_at file + i ≡ length file.constants + (m + i) = omega arith in
      ap (slice_get (asks file)) re ∙ behind_constants (m + i) ∙ slice_get-append_add (map (ask_for Variable) (lasting file)) from_locations m i (length-map (lasting file) (ask_for Variable))

  behind_locations : (i : ℕ) → slice_get (asks file) (modules_at file + i) ≡ slice_get from_modules i
  behind_locations i =
      let n = length (element_names file) in
      let re : modules_at file + i ≡ locations_at file + (n + i) = omega arith in
      ap (slice_get (asks file)) re ∙ behind_variables (n + i) ∙ slice_get-append_add (map location_ask (element_names file)) from_modules n i (length-map (element_names file) location_ask)

  behind_modules : (i : ℕ) → slice_get (asks file) (labels_at file + i) ≡ slice_get from_labels i
  behind_modules i =
      let n = length (element_names file) in
      let re : labels_at file + i ≡ modules_at file + (n + i) = omega arith in
      ap (slice_get (asks file)) re ∙ behind_locations (n + i) ∙ slice_get-append_add (map module_ask (element_names file)) from_labels n i (length-map (element_names file) module_ask)

  behind_labels : (i : ℕ) → slice_get (asks file) (rewards_at file + i) ≡ slice_get from_rewards i
  behind_labels i =
      let n = length (labels file) in
      let re : rewards_at file + i ≡ labels_at file + (n + i) = omega arith in
      ap (slice_get (asks file)) re ∙ behind_modules (n + i) ∙ slice_get-append_add (map (ask_for Label) (labels file)) from_rewards n i (length-map (labels file) (ask_for Label))

  part_at : {X : Type 0} (c : NameClass) (f : X → Ask) → ((x : X) → space Prism (f x).0 ≡ space Prism c) → (xs : List X) (rest : List Ask) (at : ℕ) → at + length xs ≤ actions_at file →
      ((i : ℕ) → slice_get (asks file) (at + i) ≡ slice_get (map f xs ++ rest) i) → IsPart Prism c (length xs) (some_from at (length xs) (entries file))
  part_at c f e xs rest at l there =
      let long = asks_length file in
      part Prism (all_asks file) c at (length xs) (let b = length-append (asks file) (map action_ask (targets file)) in omega arith)
      (λ i a k g.
      first_have (λ b. space Prism b ≡ space Prism c) f e xs rest 0 (λ j b m h. absurd (omega arith)) i a (omega arith)
      (sym (there i) ∙ sym (slice_get-front (asks file) (map action_ask (targets file)) (at + i) (omega arith)) ∙ g))

  pub constants_part : IsPart Prism Constant (length file.constants) names.constants
  constants_part = part_at Constant constant_ask (λ x. refl) file.constants from_variables 0 (omega arith) (λ i. let on : 0 + i ≡ i = omega arith in ap (slice_get (asks file)) on)

  pub variables_part : IsPart Prism Variable (length (lasting file)) names.variables
  variables_part = part_at Variable (ask_for Variable) (λ x. refl) (lasting file) from_locations (length file.constants) (omega arith) behind_constants

  pub locations_part : IsPart Prism Location (length (element_names file)) names.locations
  locations_part = part_at Location location_ask (λ x. refl) (element_names file) from_modules (locations_at file) (omega arith) behind_variables

  pub modules_part : IsPart Prism Module (length (element_names file)) names.modules
  modules_part = part_at Module module_ask (λ x. refl) (element_names file) from_labels (modules_at file) (omega arith) behind_locations

  pub labels_part : IsPart Prism Label (length (labels file)) names.labels
  labels_part = part_at Label (ask_for Label) (λ x. refl) (labels file) from_rewards (labels_at file) (omega arith) behind_modules

  pub rewards_part : IsPart Prism Reward (length (structures file)) names.rewards
  rewards_part =
      part_at Reward (ask_for Reward) (λ x. refl) (structures file) [] (rewards_at file) (omega arith) (λ i. behind_labels i ∙ ap (λ as_. slice_get as_ i) (sym (append-nil from_rewards)))

  -- ---- their names are identifiers
  pub variable_spelled : (i : ℕ) → i < length (lasting file) → IsKind (name_at names.variables i) Ident
  variable_spelled i l = name_spelled names.variables i nothing (valid_from (length file.constants) (length (lasting file))) (let p = variables_part.long in omega arith)

  pub constant_spelled : (i : ℕ) → i < length file.constants → IsKind (name_at names.constants i) Ident
  constant_spelled i l = name_spelled names.constants i nothing (valid_from 0 (length file.constants)) (let p = constants_part.long in omega arith)

  pub location_spelled : (i : ℕ) → i < length (element_names file) → IsKind (name_at names.locations i) Ident
  location_spelled i l = name_spelled names.locations i nothing (valid_from (length file.constants + length (lasting file)) (length (element_names file))) (let p = locations_part.long in omega arith)

  pub module_spelled : (i : ℕ) → i < length (element_names file) → IsKind (name_at names.modules i) Ident
  module_spelled i l = name_spelled names.modules i nothing (valid_from (modules_at file) (length (element_names file))) (let p = modules_part.long in omega arith)

  pub reward_spelled : (i : ℕ) → i < length (structures file) → IsKind (name_at names.rewards i) Ident
  reward_spelled i l = name_spelled names.rewards i nothing (valid_from (rewards_at file) (length (structures file))) (let p = rewards_part.long in omega arith)

  pub labels_spelled : Each IsValidName names.labels
  labels_spelled = valid_from (labels_at file) (length (labels file))

-- ---- labels
-- only labels are in their space
pub is_of_label : (c : NameClass) → space Prism c ≡ space Prism Label → c ≡ Label
is_of_label Label e = refl
is_of_label c e = absurd cc
