-- The states of a translated file go onto those of the file.
use Rattle.std.specs.Prelude.{◌≡◌, ℕ, ◌+◌, ◌-◌, ◌<◌, List, [], map, length, Bool, true, false, nat_lt, get_or}
use Rattle.std.proofs.Common.{refl, sym, ap, ap₂, ◌∙◌, arith, ltb-true, ltb-false, length-append}
use Rattle.std.proofs.lemmas.Option.{get_or_from_slice_get}
use Rattle.std.proofs.lemmas.List.{length-map}
use Rattle.std.proofs.lemmas.Bool.{both_ways}
use Rattle.process_core.specs.Ready.{Values}
use Rattle.choice_laws.specs.Columns.{at_start, counting, stands, value_at}
use Rattle.choice_laws.proofs.Columns.{read_at, value_absent, length-counting, value_at-map, listed}
use Rattle.process_core.specs.Instance.{Valuation, Domain, Between, Column, is_in, is_state, Truths, domain_at}
use Rattle.prism_flat.specs.Scene as prism_scene
use Rattle.jani_tree.specs.Syntax.{File, element_names}
use Rattle.jani_meaning.specs.Elements as jani
use Rattle.jani_meaning.specs.Elements.{lasting}
use Rattle.jani_meaning.specs.Scene as jani_scene
use Rattle.jani_meaning.specs.Scene.{location_column, counted}
use Rattle.jani_meaning.proofs.Columns.{has_count, only_nought}
use Rattle.prism_translation.specs.Elements.{Element, elements, has_several}
use Rattle.prism_translation.specs.StateLaws.{columns, state_of}
use Rattle.prism_translation.specs.Translated.{translated}
use Rattle.prism_translation.specs.Sound.{FileIsSound, GivesAlike}
use Rattle.prism_translation.proofs.ColumnsAlike.{range_of_column, state_is, pass_from, pass_at, pass_map, pass_value, pass_length}
use Rattle.prism_translation.proofs.Numbered.{automata_length, element_length, element_numbers, no_element}
use Rattle.prism_translation.proofs.Follows.{column_name}
use Rattle.prism_translation.proofs.ColumnNames.{names_of_columns}
use Rattle.prism_translation.proofs.Coverage.{all_within, location_stands, variable_there}
use Rattle.prism_translation.proofs.Domains.{range_at, range_of_location, domains_alike}

-- ---- a state has a value of its range in each column
pub state_length : (cs : List Column) (s : Values) → is_state cs s ≡ true → length s ≡ length cs
state_length cs s h = pass_length range_of_column is_in cs s (sym (state_is cs s) ∙ h)

pub state_at : (ranges : ℕ → Domain) (cs : List Column) (js : List ℕ) (s : Values) (j : ℕ) → map range_of_column cs ≡ map ranges js → is_state cs s ≡ true → stands js j ≡ true → is_in (ranges j) (value_at js s j) ≡ true
state_at ranges cs js s j e h k = pass_value range_of_column is_in ranges cs js s j e (sym (state_is cs s) ∙ h) k

-- it has as many values as there are columns
pub state_long : (file : File) (v : Valuation) (s : Values) → is_state (prism_scene.columns_of (translated file) v) s ≡ true → length s ≡ length (columns file)
state_long file v s h =
    let cs = prism_scene.columns_of (translated file) v in
    state_length cs s h
    ∙ sym (length-map cs (λ (c : Column). c.name))
    ∙ ap length (names_of_columns file v)
    ∙ length-map (columns file) (column_name file v v [])

-- ---- the only value of the location of an element without several

module _ (file : File) (v w : Valuation) (sound : FileIsSound file) (alike : GivesAlike file v w) where
  abbrev n : ℕ
  n = length (element_names file)

  abbrev total : ℕ
  total = n + length (lasting file)

  abbrev cols : List ℕ
  cols = columns file

  abbrev prism_columns : List Column
  prism_columns = prism_scene.columns_of (translated file) v

  abbrev jani_columns : List Column
  jani_columns = jani_scene.columns_of file w

  abbrev range : ℕ → Domain
  range j = range_at file v w sound alike j

  pub jani_columns_long : length jani_columns ≡ total
  jani_columns_long =
      let a = length-append (map location_column (jani.elements file)) (map (λ o. jani_scene.column (jani_scene.constant_names file w) o.var) (lasting file)) in
      let b = length-map (jani.elements file) location_column in
      let c = length-map (lasting file) (λ o. jani_scene.column (jani_scene.constant_names file w) o.var) in
      let d = automata_length file in
      omega arith

  -- a column that doesn't stand in the translated file is the location of an element that has no other
  pub record IsSingle (j : ℕ) : Type 0 where
    pub element : Element
    pub range_is : range j ≡ Between (counted 0) (counted (length element.automaton.locations - 1))
    pub few : has_several element ≡ false
    pub low : j < length (elements file)
    pub number : (get_or (elements file) j no_element).number ≡ j
    pub few_there : has_several (get_or (elements file) j no_element) ≡ false

  pub single : (j : ℕ) → j < total → stands cols j ≡ false → IsSingle j
  single j l h = by_kind (nat_lt j n) refl
    where
      by_kind : (b : Bool) → nat_lt j n ≡ b → IsSingle j
      by_kind false e =
          let up = ltb-false j n e in
          let there : stands cols j ≡ true = ap (stands cols) (let o : j ≡ n + (j - n) = omega arith in o) ∙ variable_there file sound.some_element (j - n) (omega arith) in
          absurd (both_ways (stands cols j) h there)
      by_kind true e =
          let low = ltb-true j n e in
          let long = automata_length file in
          let els = element_length 0 (jani.elements file) in
          let at : (get_or (elements file) j no_element).number ≡ j = element_numbers 0 (jani.elements file) j no_element (omega arith) ∙ (let o : 0 + j ≡ j = omega arith in o) in
          let within : j < length (elements file) = omega arith in
          record {
            element = get_or (elements file) j no_element;
            range_is = ap range (sym at) ∙ range_of_location file v w sound alike j no_element within;
            few = sym (location_stands file j no_element within) ∙ ap (stands cols) at ∙ h;
            low = within;
            number = at;
            few_there = sym (location_stands file j no_element within) ∙ ap (stands cols) at ∙ h;
          }

  -- ---- each state goes to a state
  pub states_into : (s : Values) → is_state prism_columns s ≡ true → is_state jani_columns (state_of file s) ≡ true
  states_into s is =
      state_is jani_columns (state_of file s) ∙ pass_from range_of_column is_in Truths jani_columns (state_of file s) (length-map (counting 0 total) (value_at cols s) ∙ length-counting 0 total ∙ sym jani_columns_long)
      (λ j l.
      let below : j < total = let e = jani_columns_long in omega arith in
      ap (is_in (domain_at jani_columns j)) (get_or_from_slice_get (state_of file s) j (value_at cols s j) at_start (read_at cols total s j below))
      ∙ by_stand j below (stands cols j) refl)
    where
      by_stand : (j : ℕ) → j < total → (b : Bool) → stands cols j ≡ b → is_in (range j) (value_at cols s j) ≡ true
      by_stand j l true e = state_at range prism_columns cols s j (domains_alike file v w sound alike) is e
      by_stand j l false e =
          let k = single j l e in
          ap₂ is_in k.range_is (value_absent cols s j e) ∙ has_count 0 (length k.element.automaton.locations - 1) (omega arith)

  -- ---- and each state of the file comes of one
  abbrev back : Values → Values
  back u = map (λ j. get_or u j at_start) cols

  back_is_state : (u : Values) → is_state jani_columns u ≡ true → is_state prism_columns (back u) ≡ true
  back_is_state u h =
      state_is prism_columns (back u) ∙ pass_map range_of_column is_in range (λ j. get_or u j at_start) prism_columns cols (domains_alike file v w sound alike)
      (λ k d l. pass_at range_of_column is_in Truths jani_columns u (sym (state_is jani_columns u) ∙ h) (get_or cols k d) (let a = all_within file k d l in let e = jani_columns_long in omega arith))

  back_goes_to : (u : Values) → is_state jani_columns u ≡ true → state_of file (back u) ≡ u
  back_goes_to u h =
      let long : length u ≡ total = state_length jani_columns u h ∙ jani_columns_long in
      ap (λ m. map (value_at cols (back u)) (counting 0 m)) (sym long)
      ∙ sym (listed at_start 0 u (value_at cols (back u))
      (λ i l. ap (value_at cols (back u)) (let o : 0 + i ≡ i = omega arith in o) ∙ by_stand i (omega arith) (stands cols i) refl))
    where
      by_stand : (i : ℕ) → i < total → (b : Bool) → stands cols i ≡ b → value_at cols (back u) i ≡ get_or u i at_start
      by_stand i l true e = value_at-map (λ j. get_or u j at_start) cols i e
      by_stand i l false e =
          let k = single i l e in
          let few = ltb-false 1 (length k.element.automaton.locations) k.few in
          let none : length k.element.automaton.locations - 1 ≡ 0 = omega arith in
          value_absent cols (back u) i e
          ∙ sym (only_nought (get_or u i at_start)
          (ap (λ m. is_in (Between (counted 0) (counted m)) (get_or u i at_start)) (sym none)
          ∙ ap (λ d. is_in d (get_or u i at_start)) (sym k.range_is)
          ∙ pass_at range_of_column is_in Truths jani_columns u (sym (state_is jani_columns u) ∙ h) i (let e = jani_columns_long in omega arith)))

  pub states_onto : (u : Values) → is_state jani_columns u ≡ true → (s : Values) × (is_state prism_columns s ≡ true) × (state_of file s ≡ u)
  states_onto u h = (back u, back_is_state u h, back_goes_to u h)
