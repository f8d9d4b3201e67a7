-- What the columns of a translated file have, as their names, ranges or first values, is what the columns of the file have: told of
-- each variable and each location, it holds of the columns in order. And states of which each column passes a test.
use Rattle.std.specs.Prelude.{◌≡◌, ℕ, zero, suc, ◌+◌, ◌<◌, List, [], ◌∷◌, ◌++◌, map, length, Bool, true, false, ◌&&◌, ◌||◌, Some, if◌then◌else◌, nat_eq, get_or, slice_get, unwrap_or, Option}
use Rattle.std.specs.List.{flat_map, All}
use Rattle.std.proofs.Common.{refl, sym, ap, ap₂, ◌∙◌, arith}
use Rattle.std.proofs.lemmas.Bool.{eqb-true}
use Rattle.std.proofs.lemmas.Option.{slice_get-get_or}
use Rattle.std.proofs.lemmas.List.{map-append, length-map, get_or-map, get_or-append-add}
use Rattle.std.proofs.lemmas.List.Elements.{All-head, All-tail, All-filter, All-append}
use Rattle.std.proofs.lemmas.List.Folds.{flat_map-map}
use Rattle.basics.specs.Booleans.{first_true, second_true}
use Rattle.op_trees.specs.declared.tree.Value.{Value}
use Rattle.op_trees.specs.Seen.{Seen}
use Rattle.process_core.specs.Product.{map-map, map-flat_map}
use Rattle.process_core.specs.Ready.{Values}
use Rattle.choice_laws.specs.Columns.{at_start, value_at, stands}
use Rattle.choice_laws.proofs.Walks.{cons_parts, flat_map_agree_in}
use Rattle.prism_tree.specs.Syntax as prism
use Rattle.prism_tree.specs.Syntax.{plain}
use Rattle.prism_names.specs.Names.{unchanged, part_of}
use Rattle.process_core.specs.Instance.{Valuation, Domain, Column, only_if, is_in, is_first, is_state, begins, begin_all}
use Rattle.prism_flat.specs.Scene as prism_scene
use Rattle.jani_tree.specs.Syntax.{Automaton, File, element_names}
use Rattle.jani_meaning.specs.Elements as jani
use Rattle.jani_meaning.specs.Elements.{Owned, lasting}
use Rattle.jani_meaning.specs.Scene as jani_scene
use Rattle.jani_meaning.specs.Scene.{location_column}
use Rattle.name_table.specs.PrismAsks.{NewNames}
use Rattle.prism_translation.specs.Elements.{Element, elements, has_several, Lasting, lasting_variables, shared, own, adopted, at_home}
use Rattle.prism_translation.specs.Names.{new_names}
use Rattle.prism_translation.specs.Parts.{variable, location_variable}
use Rattle.prism_translation.specs.Modules.{module_of}
use Rattle.prism_translation.specs.StateLaws.{column_of, module_columns, columns}
use Rattle.prism_translation.specs.Translated.{translated}
use Rattle.prism_translation.proofs.Numbered.{automata_length, element_length, element_numbers, automaton_at, lasting_length, lasting_numbers, lasting_owned_at, no_automaton}
use Rattle.prism_translation.proofs.OnlyIf.{map-only_if}

-- ---- the columns of a translated file
module _ (file : File) (v : Valuation) where
  abbrev names : NewNames
  names = new_names file

  abbrev pub column_here : prism.Var → Column
  column_here x = prism_scene.column (prism_scene.has_condition (translated file)) unchanged (prism_scene.constant_names (translated file) v unchanged) x

  -- what a column has, and what the column of the file with a number has
  module _ {X : Type 0} (get : Column → X) (there : ℕ → X) where
    abbrev pub IsThere : Lasting → Type 0
    IsThere x = get (column_here (variable file names x)) ≡ there (column_of file x)

    variables_alike : (xs : List Lasting) → All IsThere xs → map get (map column_here (map (variable file names) xs)) ≡ map there (map (column_of file) xs)
    variables_alike [] h = refl
    variables_alike (x ∷ xs) h = ap₂ (λ a l. a ∷ l) (All-head IsThere x xs h) (variables_alike xs (All-tail IsThere x xs h))

    module _ (variables : All IsThere (lasting_variables file)) (locations : All (λ el. get (column_here (location_variable file names el)) ≡ there el.number) (elements file)) where
      home_alike : (k : ℕ) → All IsThere (at_home file k)
      home_alike k =
          All-append IsThere (own file k) (adopted file k)
          (All-filter _ IsThere (lasting_variables file) variables) (All-filter _ IsThere (lasting_variables file) variables)

      module_alike : (el : Element) → get (column_here (location_variable file names el)) ≡ there el.number →
          map get (prism_scene.part_columns (translated file) (prism_scene.has_condition (translated file)) v (part_of (translated file) (plain (module_of file names el)))) ≡ map there (module_columns file el)
      module_alike el h =
          ap (map get) (map-append column_here (only_if (has_several el) (location_variable file names el)) (map (variable file names) (at_home file el.number)))
          ∙ map-append get (map column_here (only_if (has_several el) (location_variable file names el))) (map column_here (map (variable file names) (at_home file el.number)))
          ∙ ap₂ (λ a b. a ++ b)
          (ap (map get) (map-only_if column_here (has_several el) (location_variable file names el))
          ∙ map-only_if get (has_several el) (column_here (location_variable file names el))
          ∙ ap (only_if (has_several el)) h
          ∙ sym (map-only_if there (has_several el) el.number))
          (variables_alike (at_home file el.number) (home_alike el.number))
          ∙ sym (map-append there (only_if (has_several el) el.number) (map (column_of file) (at_home file el.number)))

      -- each column has what the column has that it is
      pub columns_alike : map get (prism_scene.columns_of (translated file) v) ≡ map there (columns file)
      columns_alike =
          map-append get (map column_here (map (variable file names) (shared file))) (flat_map (prism_scene.part_columns (translated file) (prism_scene.has_condition (translated file)) v) (map (part_of (translated file)) (map (λ el. plain (module_of file names el)) (elements file))))
          ∙ ap₂ (λ a b. a ++ b) (variables_alike (shared file) (All-filter _ IsThere (lasting_variables file) variables))
          (ap (λ ms. map get (flat_map (prism_scene.part_columns (translated file) (prism_scene.has_condition (translated file)) v) ms)) (map-map (part_of (translated file)) (λ el. plain (module_of file names el)) (elements file))
          ∙ ap (map get) (flat_map-map (prism_scene.part_columns (translated file) (prism_scene.has_condition (translated file)) v) (λ el. part_of (translated file) (plain (module_of file names el))) (elements file))
          ∙ map-flat_map get (λ el. prism_scene.part_columns (translated file) (prism_scene.has_condition (translated file)) v (part_of (translated file) (plain (module_of file names el)))) (elements file)
          ∙ flat_map_agree_in _ (λ el. map there (module_columns file el)) (elements file) (λ k d l. module_alike (get_or (elements file) k d) (locations k d l))
          ∙ sym (map-flat_map there (module_columns file) (elements file)))
          ∙ sym (map-append there (map (column_of file) (shared file)) (flat_map (module_columns file) (elements file)))

-- ---- the columns of the file: the locations of the elements, and the variables
module _ (file : File) (w : Valuation) where
  abbrev pub jani_column : Owned → Column
  jani_column o = jani_scene.column (jani_scene.constant_names file w) o.var

  module _ {X : Type 0} (get : Column → X) (other : X) where
    -- what the column with a number has
    abbrev pub there : ℕ → X
    there j = get_or (map get (jani_scene.columns_of file w)) j other

    behind : (cs ds : List Column) (i : ℕ) → get_or (map get (cs ++ ds)) (length cs + i) other ≡ get_or (map get ds) i other
    behind cs ds i =
        ap (λ xs. get_or xs (length cs + i) other) (map-append get cs ds)
        ∙ ap (λ n. get_or (map get cs ++ map get ds) (n + i) other) (sym (length-map cs get))
        ∙ get_or-append-add (map get cs) (map get ds) i other

    variable_at : (i : ℕ) (o : Owned) → i < length (lasting file) → there (length (element_names file) + i) ≡ get (jani_column (get_or (lasting file) i o))
    variable_at i o l =
        ap (λ n. there (n + i)) (sym (length-map (jani.elements file) location_column ∙ automata_length file))
        ∙ behind (map location_column (jani.elements file)) (map jani_column (lasting file)) i
        ∙ ap (λ xs. get_or xs i other) (map-map get jani_column (lasting file))
        ∙ get_or-map (λ o. get (jani_column o)) (lasting file) i o other l

    pub variables_there : All (λ x. get (jani_column x.owned) ≡ there (column_of file x)) (lasting_variables file)
    variables_there i d l =
        let x = get_or (lasting_variables file) i d in
        let within : i < length (lasting file) = let e = lasting_length 0 (lasting file) in omega arith in
        let number : x.number ≡ i = lasting_numbers 0 (lasting file) i d within ∙ (let o : 0 + i ≡ i = omega arith in o) in
        ap (λ (o : Owned). get (jani_column o)) (lasting_owned_at 0 (lasting file) i d x.owned within)
        ∙ sym (variable_at i x.owned within)
        ∙ ap (λ k. there (length (element_names file) + k)) (sym number)

    location_at : (xs : List Automaton) (rest : List Column) (i : ℕ) (a : Automaton) → slice_get xs i ≡ Some a → get_or (map get (map location_column xs ++ rest)) i other ≡ get (location_column a)
    location_at [] rest i a e = absurd cc
    location_at (b ∷ bs) rest zero a e = ap (λ o. get (location_column (unwrap_or o b))) e
    location_at (b ∷ bs) rest (suc i) a e = location_at bs rest i a e

    pub locations_there : All (λ el. there el.number ≡ get (location_column el.automaton)) (elements file)
    locations_there i d l =
        let el = get_or (elements file) i d in
        let within : i < length (jani.elements file) = let e = element_length 0 (jani.elements file) in omega arith in
        let number : el.number ≡ i = element_numbers 0 (jani.elements file) i d within ∙ (let o : 0 + i ≡ i = omega arith in o) in
        location_at (jani.elements file) (map jani_column (lasting file)) el.number el.automaton
        (ap (slice_get (jani.elements file)) number ∙ slice_get-get_or (jani.elements file) i no_automaton within ∙ ap Some (sym (automaton_at 0 (jani.elements file) i d no_automaton within)))

-- ---- states of which each column passes a test at the value that stands in it
module _ {X : Type 0} (get : Column → X) (test : X → Value → Bool) where
  abbrev pub all_pass : List Column → Values → Bool
  all_pass [] [] = true
  all_pass [] (v ∷ s) = false
  all_pass (c ∷ cs) [] = false
  all_pass (c ∷ cs) (v ∷ s) = test (get c) v && all_pass cs s

  -- at each column by its number
  pub pass_from : (other : X) (cs : List Column) (t : Values) → length t ≡ length cs → ((i : ℕ) → i < length cs → test (get_or (map get cs) i other) (get_or t i at_start) ≡ true) → all_pass cs t ≡ true
  pass_from other [] [] e h = refl
  pass_from other [] (u ∷ t) e h = absurd (let no : ⊥ = omega arith in no)
  pass_from other (c ∷ cs) [] e h = absurd (let no : ⊥ = omega arith in no)
  pass_from other (c ∷ cs) (u ∷ t) e h = ap₂ (λ a b. a && b) (h 0 (omega arith)) (pass_from other cs t (omega arith) (λ i l. h (suc i) (omega arith)))

  pub pass_at : (other : X) (cs : List Column) (t : Values) → all_pass cs t ≡ true → (i : ℕ) → i < length cs → test (get_or (map get cs) i other) (get_or t i at_start) ≡ true
  pass_at other [] t h i l = absurd (let no : ⊥ = omega arith in no)
  pass_at other (c ∷ cs) [] h i l = absurd cc
  pass_at other (c ∷ cs) (u ∷ t) h zero l = first_true (test (get c) u) (all_pass cs t) h
  pass_at other (c ∷ cs) (u ∷ t) h (suc i) l = pass_at other cs t (second_true (test (get c) u) (all_pass cs t) h) i (omega arith)

  -- where the columns have what these others have
  pub pass_map : (f : ℕ → X) (g : ℕ → Value) (cs : List Column) (js : List ℕ) → map get cs ≡ map f js → All (λ j. test (f j) (g j) ≡ true) js → all_pass cs (map g js) ≡ true
  pass_map f g [] [] e h = refl
  pass_map f g [] (j ∷ js) e h = absurd cc
  pass_map f g (c ∷ cs) [] e h = absurd cc
  pass_map f g (c ∷ cs) (j ∷ js) e h =
      let parts = cons_parts (get c) (f j) (map get cs) (map f js) e in
      ap₂ (λ a b. a && b) (ap (λ x. test x (g j)) parts.0 ∙ All-head (λ j. test (f j) (g j) ≡ true) j js h)
      (pass_map f g cs js parts.1 (All-tail (λ j. test (f j) (g j) ≡ true) j js h))

  pub pass_value : (f : ℕ → X) (cs : List Column) (js : List ℕ) (s : Values) (j : ℕ) → map get cs ≡ map f js → all_pass cs s ≡ true → stands js j ≡ true → test (f j) (value_at js s j) ≡ true
  pass_value f [] [] s j e h k = absurd cc
  pass_value f [] (i ∷ js) s j e h k = absurd cc
  pass_value f (c ∷ cs) [] s j e h k = absurd cc
  pass_value f (c ∷ cs) (i ∷ js) [] j e h k = absurd cc
  pass_value f (c ∷ cs) (i ∷ js) (u ∷ s) j e h k =
      let parts = cons_parts (get c) (f i) (map get cs) (map f js) e in
      by_test (nat_eq i j) refl k parts.0 (first_true (test (get c) u) (all_pass cs s) h) (pass_value f cs js s j parts.1 (second_true (test (get c) u) (all_pass cs s) h))
    where
      by_test : (b : Bool) → nat_eq i j ≡ b → (b || stands js j) ≡ true → get c ≡ f i → test (get c) u ≡ true → (stands js j ≡ true → test (f j) (value_at js s j) ≡ true) →
          test (f j) (if b then u else value_at js s j) ≡ true
      by_test true t g a b ih = ap (λ x. test x u) (ap f (sym (eqb-true i j t)) ∙ sym a) ∙ b
      by_test false t g a b ih = ih g

  pub pass_length : (cs : List Column) (s : Values) → all_pass cs s ≡ true → length s ≡ length cs
  pass_length [] [] h = refl
  pass_length [] (u ∷ s) h = absurd cc
  pass_length (c ∷ cs) [] h = absurd cc
  pass_length (c ∷ cs) (u ∷ s) h = ap suc (pass_length cs s (second_true (test (get c) u) (all_pass cs s) h))

-- states and initial states are such
abbrev pub range_of_column : Column → Domain
range_of_column c = c.domain

abbrev pub first_of_column : Column → Option Seen
first_of_column c = c.first

pub state_is : (cs : List Column) (s : Values) → is_state cs s ≡ all_pass range_of_column is_in cs s
state_is [] [] = refl
state_is [] (v ∷ s) = refl
state_is (c ∷ cs) [] = refl
state_is (c ∷ cs) (v ∷ s) = ap (λ b. is_in c.domain v && b) (state_is cs s)

pub begin_is : (cs : List Column) (s : Values) → begin_all cs s ≡ all_pass first_of_column is_first cs s
begin_is [] [] = refl
begin_is [] (v ∷ s) = refl
begin_is (c ∷ cs) [] = refl
begin_is (c ∷ cs) (v ∷ s) = ap (λ b. begins c v && b) (begin_is cs s)
