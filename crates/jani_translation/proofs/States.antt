-- The states of a translated file: each element is at its one location.
use Rattle.std.specs.Prelude.{◌≡◌, ℕ, ◌+◌, List, [], ◌∷◌, ◌++◌, map, length, Bool, true, false, not, ◌&&◌, ◌||◌, Option, Some, None, IfSome, IsTrue, if◌then◌else◌}
use Rattle.std.specs.List.{AllByRecursion}
use Rattle.std.proofs.Common.{refl, sym, ap, ap₂, ◌∙◌}
use Rattle.std.proofs.lemmas.Bool.{and_parts}
use Rattle.std.proofs.lemmas.List.{append_cancel_left, length-map}
use Rattle.op_trees.specs.Seen.{Seen, known}
use Rattle.op_trees.specs.Tree.{Truth, Number, Name as At, One, Two, Three}
use Rattle.op_trees.specs.declared.tree.Value.{Value}
use Rattle.op_trees.specs.declared.tree.Value.TheVariants as V
use Rattle.process_core.specs.Ready.{Values, Name}
use Rattle.prism_tree.specs.Syntax as prism
use Rattle.process_core.specs.Choices.{is_true}
use Rattle.process_core.specs.Instance.{Valuation, Between, Column, is_in, begins, is_state, begin_all, may_begin, no_condition}
use Rattle.prism_names.specs.Names.{see, unchanged}
use Rattle.prism_flat.specs.Moment as prism_moment
use Rattle.prism_flat.specs.Moment.{condition_seen}
use Rattle.prism_flat.specs.Scene as prism_scene
use Rattle.prism_flat.specs.Scene.{has_condition}
use Rattle.jani_tree.specs.Syntax.{Automaton, Expression, is_always, element_names}
use Rattle.jani_meaning.specs.Elements.{has_several_starts}
use Rattle.jani_meaning.specs.Moment as jani_moment
use Rattle.jani_meaning.specs.Moment.{begin_here, is_among, restriction_seen}
use Rattle.jani_meaning.specs.Scene as jani_scene
use Rattle.jani_meaning.specs.Scene.{counted, location_column}
use Rattle.jani_meaning.proofs.Columns.{only_nought, state_length}
use Rattle.name_table.specs.Asks.{NewNames, new_names, variables}
use Rattle.prism_images.specs.Image.{image}
use Rattle.jani_translation.specs.Parts.{restriction}
use Rattle.jani_translation.specs.Translated.{translated}
use Rattle.jani_translation.specs.SeenLaws.{IsSound, IsSoundUnder, GivesAlike, renamed_column}
use Rattle.jani_translation.specs.StateLaws.{at_home, state_of, StatesAlike, ConditionSeenAlike, InitialAlike, StatesAreThese, StatesDiffer}
use Rattle.jani_translation.proofs.Counts.{named}
use Rattle.jani_translation.proofs.SameColumns.{columns_seen_alike}
use Rattle.jani_translation.proofs.SameSeen.{image_seen}
use Rattle.jani_translation.proofs.StateNames.{names_seen_alike}
use Rattle.jani_translation.proofs.Written.{variable_columns}
use Rattle.jani_translation.proofs.Elements.{elements_are, IsOne, automata_one}

module _ (names : NewNames) (cs : List Column) (s : Values) where
  home_states : (as_ : List Automaton) → AllByRecursion (IsOne names) as_ →
      is_state (map location_column as_ ++ cs) (map (λ n. at_home) (named as_) ++ s) ≡ is_state cs s
  home_states [] h = refl
  home_states (a ∷ as_) h =
      ap₂ (λ x y. x && y) (ap (λ (b : Automaton). is_in (location_column b).domain at_home) h.0.1) (home_states as_ h.1)

  home_initial : (as_ : List Automaton) → AllByRecursion (IsOne names) as_ →
      begin_all (map location_column as_ ++ cs) (map (λ n. at_home) (named as_) ++ s) ≡ begin_all cs s
  home_initial [] h = refl
  home_initial (a ∷ as_) h =
      ap₂ (λ x y. x && y) (ap (λ (b : Automaton). begins (location_column b) at_home) h.0.1) (home_initial as_ h.1)

renamed_states : (new : Name → Name) (cs : List Column) (s : Values) → is_state (map (renamed_column new) cs) s ≡ is_state cs s
renamed_states new [] [] = refl
renamed_states new [] (u ∷ s) = refl
renamed_states new (c ∷ cs) [] = refl
renamed_states new (c ∷ cs) (u ∷ s) = ap (λ b. is_in c.domain u && b) (renamed_states new cs s)

renamed_initial : (new : Name → Name) (cs : List Column) (s : Values) → begin_all (map (renamed_column new) cs) s ≡ begin_all cs s
renamed_initial new [] [] = refl
renamed_initial new [] (u ∷ s) = refl
renamed_initial new (c ∷ cs) [] = refl
renamed_initial new (c ∷ cs) (u ∷ s) = ap (λ b. begins c u && b) (renamed_initial new cs s)

-- the columns are those of the locations of the automata, and then those of the file
pub columns_are : (file : prism.File) (v w : Valuation) → IsSoundUnder file v → GivesAlike file v w →
    jani_scene.columns_of (translated file) w ≡ map location_column (translated file).automata ++ map (renamed_column (new_names file).value) (prism_scene.columns_of file v)
columns_are file v w sound alike =
    columns_seen_alike file v w sound alike
    ∙ ap (λ as_. map location_column as_ ++ map (renamed_column (new_names file).value) (prism_scene.columns_of file v)) (elements_are file)

pub states_alike : (file : prism.File) → StatesAlike file
states_alike file v w sound alike s =
    let cs = map (renamed_column (new_names file).value) (prism_scene.columns_of file v) in
    ap (λ k. is_state k (state_of file s)) (columns_are file v w sound alike)
    ∙ home_states (new_names file) cs s (translated file).automata (automata_one file)
    ∙ renamed_states (new_names file).value (prism_scene.columns_of file v) s

-- ---- initial states
pub begin_alike : (file : prism.File) (v w : Valuation) → IsSoundUnder file v → GivesAlike file v w → (s : Values) →
    may_begin (jani_scene.columns_of (translated file) w) (state_of file s) ≡ may_begin (prism_scene.columns_of file v) s
begin_alike file v w sound alike s =
    let cs = map (renamed_column (new_names file).value) (prism_scene.columns_of file v) in
    ap₂ (λ a b. a && b) (states_alike file v w sound alike s)
    (ap (λ k. begin_all k (state_of file s)) (columns_are file v w sound alike)
    ∙ home_initial (new_names file) cs s (translated file).automata (automata_one file)
    ∙ renamed_initial (new_names file).value (prism_scene.columns_of file v) s)

-- what is always true restricts nothing
always_seen : (e : Expression) (names : Name → Seen) → is_always e ≡ true → no_condition ≡ jani_scene.see e names
unfolding jani_scene.see
always_seen (Truth at b) names h = ap (λ c. known (Some (V.Truth c))) (sym h)
always_seen (Number at d) names h = absurd cc
always_seen (At at x) names h = absurd cc
always_seen (One at o a) names h = absurd cc
always_seen (Two at o a b) names h = absurd cc
always_seen (Three at o a b c) names h = absurd cc

restriction_alike : (new : Name → Name) (old env : Name → Seen) → ((x : Name) → env (new x) ≡ old x) → (o : Option prism.Expression) → IfSome o (IsSound old) →
    restriction_seen env (restriction new o) ≡ condition_seen old o
restriction_alike new old env n None s = refl
restriction_alike new old env n (Some e) s = by_always (is_always (image new e)) refl (image_seen new e old env n s)
  where
    by_always : (b : Bool) → is_always (image new e) ≡ b → jani_scene.see (image new e) env ≡ see e old →
        restriction_seen env (if b then None else Some (image new e)) ≡ see e old
    by_always true h q = always_seen (image new e) env h ∙ q
    by_always false h q = q

-- each element is at a location that it may begin in
home_here : (names : NewNames) (u : Values) (i : ℕ) (as_ : List Automaton) → AllByRecursion (IsOne names) as_ → begin_here u i as_ ≡ true
home_here names u i [] h = refl
home_here names u i (a ∷ as_) h =
    ap₂ (λ x y. x && y) (ap (λ b. not b || is_among u i a a.initial) (ap has_several_starts h.0.1)) (home_here names u (i + 1) as_ h.1)

pub condition_seen_alike : (file : prism.File) → ConditionSeenAlike file
condition_seen_alike file v w sound alike s l c =
    let g = translated file in
    let n = length (element_names g) in
    let env = jani_moment.names_in g w (state_of file s) n in
    ap (λ b. if b then restriction_seen env g.restrict else known (Some (V.Truth false)))
    (ap (begin_here (state_of file s) 0) (elements_are file) ∙ home_here (new_names file) (state_of file s) 0 g.automata (automata_one file))
    ∙ restriction_alike (new_names file).value (prism_moment.names_in file v s unchanged) env (names_seen_alike file v w sound alike s l n) file.init c

-- a state has a value for each variable
variables_long : (file : prism.File) (v : Valuation) → IsSoundUnder file v → (s : Values) → IsTrue (is_state (prism_scene.columns_of file v) s) → length s ≡ length (variables file)
variables_long file v sound s h =
    state_length (prism_scene.columns_of file v) s h
    ∙ ap length (variable_columns file v sound.written.modules)
    ∙ length-map (variables file) (prism_scene.column (has_condition file) unchanged (prism_scene.constant_names file v unchanged))

pub initial_alike : (file : prism.File) → InitialAlike file
initial_alike file v w sound alike s h c =
    ap₂ (λ (x : Seen) b. is_true x.value && b) (condition_seen_alike file v w sound alike s (variables_long file v sound s h) c) (begin_alike file v w sound alike s)

-- ---- the states of the translated file

home_only : (u : Value) → is_in (Between (counted 0) (counted 0)) u ≡ true → at_home ≡ u
home_only u h = sym (only_nought u h)

behind : (names : NewNames) (cs : List Column) (as_ : List Automaton) → AllByRecursion (IsOne names) as_ → (u : Values) → is_state (map location_column as_ ++ cs) u ≡ true →
    (s : Values) × (is_state cs s ≡ true) × (map (λ n. at_home) (named as_) ++ s ≡ u)
behind names cs [] h u k = (u, k, refl)
behind names cs (a ∷ as_) h [] k = absurd cc
behind names cs (a ∷ as_) h (x ∷ u) k =
    let p = and_parts (is_in (location_column a).domain x) (is_state (map location_column as_ ++ cs) u) k in
    let r = behind names cs as_ h.1 u p.1 in
    (r.0, r.1, ap₂ (λ y t. y ∷ t) (home_only x (sym (ap (λ (b : Automaton). is_in (location_column b).domain x) h.0.1) ∙ p.0)) r.2)

pub states_are_these : (file : prism.File) → StatesAreThese file
states_are_these file v w sound alike u h =
    let cs = map (renamed_column (new_names file).value) (prism_scene.columns_of file v) in
    let r = behind (new_names file) cs (translated file).automata (automata_one file) u (sym (ap (λ k. is_state k u) (columns_are file v w sound alike)) ∙ h) in
    (r.0, sym (renamed_states (new_names file).value (prism_scene.columns_of file v) r.0) ∙ r.1, r.2)

pub states_differ : (file : prism.File) → StatesDiffer file
states_differ file s t e = append_cancel_left (map (λ a. at_home) (element_names (translated file))) s t e
