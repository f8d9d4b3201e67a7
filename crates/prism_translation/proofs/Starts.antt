-- The first values of a translated file's columns are those of the file's, and so the same states are initial.
use Rattle.std.specs.Prelude.{◌≡◌, ℕ, ◌+◌, ◌-◌, ◌<◌, List, [], ◌∷◌, map, length, Bool, true, false, Some, get_or, Option, None, is_some, if◌then◌else◌}
use Rattle.std.specs.List.{All, list_any}
use Rattle.std.proofs.Common.{refl, sym, ap, ap₂, ◌∙◌, arith, subst}
use Rattle.std.proofs.lemmas.List.Elements.{All-cons, All-nil}
use Rattle.std.proofs.lemmas.Option.{get_or_from_slice_get}
use Rattle.std.proofs.lemmas.List.{length-map}
use Rattle.std.specs.Option.{option_map}
use Rattle.basics.specs.Booleans.{first_false, same_test, second_false}
use Rattle.bridge_io.specs.declared.reason.Named.{Named}
use Rattle.op_trees.specs.Seen.{Seen, known}
use Rattle.process_core.specs.Ready.{Values}
use Rattle.choice_laws.specs.Columns.{at_start, counting, stands, value_at}
use Rattle.choice_laws.proofs.Columns.{read_at, value_absent, length-counting, read_back}
use Rattle.process_core.specs.Instance.{Valuation, Column, is_state, is_first, begin_all}
use Rattle.prism_tree.specs.Syntax as prism
use Rattle.prism_flat.specs.Scene as prism_scene
use Rattle.jani_tree.specs.Syntax.{Expression, File, Var, element_names}
use Rattle.jani_meaning.specs.Elements as jani
use Rattle.jani_meaning.specs.Elements.{has_several_starts, lasting, initial_number}
use Rattle.jani_meaning.specs.Scene as jani_scene
use Rattle.jani_meaning.specs.Scene.{begins_anywhere, first_location, location_column}
use Rattle.name_table.specs.PrismAsks.{NewNames, value_name}
use Rattle.jani_images.specs.Image.{image}
use Rattle.prism_translation.specs.Elements.{Element, elements, has_several, lasting_variables}
use Rattle.prism_translation.specs.Names.{new_names}
use Rattle.prism_translation.specs.Conditions.{condition_parts}
use Rattle.prism_translation.specs.Modules.{all_of}
use Rattle.prism_translation.specs.Parts.{counted, range_of, scope_of, start_under, location_variable, first_of}
use Rattle.prism_translation.specs.StateLaws.{columns, state_of}
use Rattle.prism_translation.specs.Translated.{translated}
use Rattle.prism_translation.specs.Sound.{FileIsSound, GivesAlike, SoundStart}
use Rattle.prism_translation.proofs.ColumnsAlike.{first_of_column, begin_is, IsThere, columns_alike, column_here, variables_there, locations_there, pass_from, pass_at, pass_map, pass_value}
use Rattle.prism_translation.proofs.Numbered.{element_has, lasting_owned, no_element}
use Rattle.prism_translation.proofs.Coverage.{all_within}
use Rattle.prism_translation.proofs.Domains.{constants_here, see_bound, see_count}
use Rattle.prism_translation.proofs.Follows.{only_location}
use Rattle.prism_translation.proofs.States.{state_long, IsSingle, single, jani_columns_long}
use Rattle.prism_translation.proofs.OneToOne.{columns_once}

abbrev nothing_known : Option Seen
nothing_known = Some (known None)

-- the first value of the column of this number
abbrev pub start_at : List Column → ℕ → Option Seen
start_at cs i = get_or (map (λ (c : Column). c.first) cs) i nothing_known

-- a first value where it counts: not where there is an initial condition
abbrev pub shown : Bool → Option Seen → Option Seen
shown true o = None
shown false o = o

none_passes : {X : Type 0} (p : X → Bool) (xs : List X) → list_any p xs ≡ false → All (λ x. p x ≡ false) xs
none_passes p [] h = All-nil (λ x. p x ≡ false)
none_passes p (x ∷ xs) h = All-cons (λ x. p x ≡ false) x xs (first_false (p x) (list_any p xs) h) (none_passes p xs (second_false (p x) (list_any p xs) h))

module _ (file : File) (v w : Valuation) where
  abbrev names : NewNames
  names = new_names file

  module _ (sound : FileIsSound file) (alike : GivesAlike file v w) where
    abbrev jani_columns : List Column
    jani_columns = jani_scene.columns_of file w

    abbrev pub start : ℕ → Option Seen
    start j = start_at jani_columns j

    abbrev pub first_shown : Column → Option Seen
    first_shown c = shown (jani_scene.has_condition file) c.first

    abbrev pub start_shown : ℕ → Option Seen
    start_shown j = shown (jani_scene.has_condition file) (start j)

    -- whether there is an initial condition
    abbrev any : Bool
    any = jani_scene.has_condition file

    pub flags_alike : prism_scene.has_condition (translated file) ≡ any
    flags_alike = some_if any
      where
        some_if : (b : Bool) → is_some (if b then Some (all_of (condition_parts file names)) else None) ≡ b
        some_if true = refl
        some_if false = refl

    var_start : (k : ℕ) (x : Var) → any ≡ false → SoundStart file k x.start →
        Some (prism_scene.first_of (constants_here file v w sound alike) (first_of file names (value_name file names k) x) (range_of file names (value_name file names k) x.kind)) ≡ jani_scene.first_of (jani_scene.constant_names file w) x.start
    var_start k x none h = by_start x.start h
      where
        by_start : (o : Option Expression) → SoundStart file k o →
            Some (prism_scene.first_of (constants_here file v w sound alike) (option_map (image (value_name file names k)) o) (range_of file names (value_name file names k) x.kind)) ≡ jani_scene.first_of (jani_scene.constant_names file w) o
        by_start None g = absurd (let z : false ≡ true = sym none ∙ g in cc)
        by_start (Some e) g = ap Some (see_bound file v w sound alike k e g)

    -- ---- first values, which count where there is no condition
    -- by both flags, of which the translated file has the first
    under : (p q : Bool) → p ≡ q → (o : Option prism.Expression) (r : Option prism.Range) (there : Option Seen) →
        (q ≡ false → Some (prism_scene.first_of (constants_here file v w sound alike) o r) ≡ there) →
        shown q (prism_scene.first_under p (prism_scene.first_of (constants_here file v w sound alike) (start_under file names q o) r)) ≡ shown q there
    under p true e o r there h = refl
    under true false e o r there h = absurd cc
    under false false e o r there h = h refl

    variable_alike : All (IsThere file v first_shown start_shown) (lasting_variables file)
    variable_alike i d l =
        let x = get_or (lasting_variables file) i d in
        let k = scope_of file names x.owned in
        let sound_start = lasting_owned (λ o. SoundStart file (scope_of file names o) o.var.start) 0 (lasting file) sound.starts i d l in
        under (prism_scene.has_condition (translated file)) any flags_alike (first_of file names (value_name file names k) x.owned.var) (range_of file names (value_name file names k) x.owned.var.kind)
        (jani_scene.first_of (jani_scene.constant_names file w) x.owned.var.start) (λ none. var_start k x.owned.var none sound_start)
        ∙ ap (shown any) (variables_there file w first_of_column nothing_known i d l)

    pub start_location : All (λ el. start el.number ≡ (location_column el.automaton).first) (elements file)
    start_location = locations_there file w first_of_column nothing_known

    -- without a condition each automaton has one initial location
    one_start : any ≡ false → All (λ a. has_several_starts a ≡ false) (jani.elements file)
    one_start none = none_passes has_several_starts (jani.elements file) (first_false (list_any has_several_starts (jani.elements file)) (list_any begins_anywhere (lasting file)) (second_false (is_some file.restrict) _ none))

    location_alike : All (λ el. first_shown (column_here file v (location_variable file names el)) ≡ shown any (location_column el.automaton).first) (elements file)
    location_alike i d l =
        let el = get_or (elements file) i d in
        under (prism_scene.has_condition (translated file)) any flags_alike (Some (counted (initial_number el.automaton))) (Some (record { low = counted 0; high = counted (length el.automaton.locations - 1) })) (location_column el.automaton).first
        (λ none.
        ap Some (see_count file v w sound alike (initial_number el.automaton))
        ∙ sym (ap (first_location el.automaton) (element_has (λ a. has_several_starts a ≡ false) 0 (jani.elements file) (one_start none) i d l)))

    -- The columns have the first values of those that they are.
    pub starts_alike : map first_shown (prism_scene.columns_of (translated file) v) ≡ map start_shown (columns file)
    starts_alike = columns_alike file v first_shown start_shown variable_alike (λ i d l. location_alike i d l ∙ sym (ap (shown any) (start_location i d l)))

    -- ---- the same states are initial
    abbrev prism_columns : List Column
    prism_columns = prism_scene.columns_of (translated file) v

    abbrev cols : List ℕ
    cols = columns file

    abbrev total : ℕ
    total = length (element_names file) + length (lasting file)

    only_initial : (el : Element) → has_several el ≡ false → initial_number el.automaton ≡ 0
    only_initial el h = by_list el.automaton.initial
      where
        by_list : (ns : List Named) → jani.first_number el.automaton ns ≡ 0
        by_list [] = refl
        by_list (x ∷ ns) = only_location el x.name h

    -- without a condition a single location is where the element begins
    start_single : any ≡ false → (i : ℕ) → IsSingle file v w sound alike i → start i ≡ Some (jani_scene.counted 0)
    start_single none i k =
        let el = get_or (elements file) i no_element in
        ap start (sym k.number) ∙ start_location i no_element k.low
        ∙ ap (first_location el.automaton) (element_has (λ a. has_several_starts a ≡ false) 0 (jani.elements file) (one_start none) i no_element k.low)
        ∙ ap (λ n. Some (jani_scene.counted n)) (only_initial el k.few_there)

    pub starts_there : (i : ℕ) → IsSingle file v w sound alike i → start_shown i ≡ shown any (Some (jani_scene.counted 0))
    starts_there i k = by_flag any refl
      where
        by_flag : (b : Bool) → any ≡ b → shown b (start i) ≡ shown b (Some (jani_scene.counted 0))
        by_flag true e = refl
        by_flag false e = start_single e i k

    pub begin_alike : any ≡ false → (s : Values) → is_state prism_columns s ≡ true → begin_all prism_columns s ≡ begin_all jani_columns (state_of file s)
    begin_alike none s is = same_test (begin_all prism_columns s) (begin_all jani_columns (state_of file s)) onward backward
      where
        starts_here : map first_of_column prism_columns ≡ map start cols
        starts_here = subst (λ b. map (λ (c : Column). shown b c.first) prism_columns ≡ map (λ j. shown b (start j)) cols) none starts_alike

        got : (j : ℕ) → j < total → get_or (state_of file s) j at_start ≡ value_at cols s j
        got j l = get_or_from_slice_get (state_of file s) j (value_at cols s j) at_start (read_at cols total s j l)

        onward : begin_all prism_columns s ≡ true → begin_all jani_columns (state_of file s) ≡ true
        onward h =
            begin_is jani_columns (state_of file s) ∙ pass_from first_of_column is_first nothing_known jani_columns (state_of file s) (length-map (counting 0 total) (value_at cols s) ∙ length-counting 0 total ∙ sym (jani_columns_long file v w sound alike))
            (λ j l.
            let below : j < total = let e = jani_columns_long file v w sound alike in omega arith in
            ap (is_first (start j)) (got j below) ∙ by_stand j below (stands cols j) refl)
          where
            by_stand : (j : ℕ) → j < total → (b : Bool) → stands cols j ≡ b → is_first (start j) (value_at cols s j) ≡ true
            by_stand j l true e = pass_value first_of_column is_first start prism_columns cols s j starts_here (sym (begin_is prism_columns s) ∙ h) e
            by_stand j l false e = ap₂ is_first (start_single none j (single file v w sound alike j l e)) (value_absent cols s j e)

        backward : begin_all jani_columns (state_of file s) ≡ true → begin_all prism_columns s ≡ true
        backward h =
            ap (begin_all prism_columns) (sym (read_back cols s (state_long file v s is) (columns_once file)))
            ∙ begin_is prism_columns (map (value_at cols s) cols)
            ∙ pass_map first_of_column is_first start (value_at cols s) prism_columns cols starts_here
            (λ k d l.
            let j = get_or cols k d in
            let below = all_within file k d l in
            ap (is_first (start j)) (sym (got j below)) ∙ pass_at first_of_column is_first nothing_known jani_columns (state_of file s) (sym (begin_is jani_columns (state_of file s)) ∙ h) j (let e = jani_columns_long file v w sound alike in omega arith))
