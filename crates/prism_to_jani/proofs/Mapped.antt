-- The map of a file is that of what the file is translated to.
use Rattle.std.specs.Prelude.{◌≡◌, ℕ, ◌+◌, ◌<◌, ◌≤◌, ◌++◌, map, length, replicate, true, Option, Some, None, IsTrue, bytes_eq, nat_eq, if◌then◌else◌}
use Rattle.std.specs.List.{All, count_by, IsDistinct, AllByRecursion as Each}
use Rattle.std.specs.Option.{IfSome, option_map}
use Rattle.std.proofs.Common.{refl, sym, ap, ap₂, subst, subst₂, ◌∙◌, arith}
use Rattle.std.proofs.lemmas.List.{length-map}
use Rattle.std.proofs.lemmas.List.Elements.{All-from_recursion, All-weaker}
use Rattle.basics.specs.Each.{each_map, each_parts, map_each}
use Rattle.basics.specs.Options.{IfAny}
use Rattle.bridge_io.specs.declared.reason.Named.{Named}
use Rattle.frac_core.specs.Fraction.{Fraction}
use Rattle.op_trees.specs.Names.{bare_name}
use Rattle.process_core.specs.Process.{SameAt, under}
use Rattle.process_core.specs.Process as core
use Rattle.process_core.specs.Product.{map-map}
use Rattle.process_core.specs.Ready.{Name, Values, firsts}
use Rattle.process_core.specs.Instance.{is_state, only_if, Valuation}
use Rattle.process_core.specs.Steps.{Process, seen_by}
use Rattle.process_core.specs.declared.data.Mark.{Mark}
use Rattle.choice_laws.specs.Columns.{at_start, counting, state_by}
use Rattle.choice_laws.proofs.Columns.{length-counting}
use Rattle.carry_maps.specs.declared.map.CarryMap.{CarryMap}
use Rattle.carry_maps.specs.declared.map.Column.TheVariants.{Variable}
use Rattle.carry_maps.specs.Maps.{column_number, column_numbers, has_pair, HasLabels, IsMap, jani_label, jani_state}
use Rattle.carry_maps.specs.Instances.{IsMapOf}
use Rattle.carry_maps.proofs.Homes.{homes_first}
use Rattle.carry_maps.proofs.Instances.{same_by_its_map}
use Rattle.prism_tree.specs.Syntax as prism
use Rattle.prism_names.specs.Flat.{flat}
use Rattle.prism_names.specs.Names.{unchanged}
use Rattle.prism_print.specs.Same as source
use Rattle.prism_flat.specs.FlatLaws.{columns-flat, is_written_out, model-flat}
use Rattle.prism_flat.specs.Kept.{IsWrittenOut}
use Rattle.prism_flat.specs.Moment.{moment}
use Rattle.prism_flat.specs.Process as prism_process
use Rattle.prism_flat.specs.Scene as prism_scene
use Rattle.jani_tree.specs.Form.{IsShortName}
use Rattle.jani_tree.specs.Places.{bare_file}
use Rattle.jani_tree.specs.Syntax as jani
use Rattle.jani_meaning.specs.Elements.{lasting}
use Rattle.name_table.proofs.Bare.{actions-bare, new_names-bare, variables-bare}
use Rattle.name_table.specs.Asks.{actions, new_names, NewNames, variables}
use Rattle.jani_translation.specs.Automata.{earns_silently, has_monitor, zz_silent}
use Rattle.jani_translation.specs.Translated.{translated}
use Rattle.jani_translation.proofs.Differ.{actions_differ, actions_distinct}
use Rattle.jani_translation.proofs.OneForOne.{one_automaton_each}
use Rattle.jani_translation.proofs.Vectors.{all_actions}
use Rattle.jani_translation.proofs.Written.{variable_columns}
use Rattle.jani_translation_laws.proofs.Actions.{actions_among, IsAction}
use Rattle.jani_translation_laws.proofs.Bare.{translated_alike}
use Rattle.jani_translation_laws.proofs.Doubled.{actions_named, each_contained}
use Rattle.jani_translation_laws.specs.SameMeaning.{homes, label_in}
use Rattle.prism_to_jani.specs.Maps.{AreSameByMap, IsMapOfTranslation, IsMapToJani, IsSteppedPrism, MapHasLabels, MapIsShort, MapPlacesAside, pair_by}
use Rattle.prism_to_jani.specs.Promise.{state_in}
use Rattle.prism_to_jani.proofs.Counted.{all_below, all_same, each_once, numbered_behind}
use Rattle.prism_to_jani.proofs.Labels.{choices_labels, modules_labels}
use Rattle.prism_to_jani.proofs.Lasting.{elements_as_many, lasting_as_many}
use Rattle.prism_to_jani.proofs.Pairs.{have_labels, label_found, names_kept, pair_stands}
use Rattle.jani_tree.specs.Syntax.{element_names}
use Rattle.jani_translation.proofs.Counts.{element_total}
use Rattle.jani_meaning.proofs.Columns.{state_length}

-- ---- labels
-- a label of the file: none, or an action
abbrev IsLabel : prism.File → Option Name → Type 0
IsLabel file l = IfAny (IsAction file) l

-- the labels of its choices, where its copies are written out
choices_labelled : (file : prism.File) → IsWrittenOut file → (v : Valuation) (s : Values) → All (λ c. IsLabel file c.label) ((prism_process.model file).choices v s)
choices_labelled file written v s =
    let k = moment file v s in
    choices_labels (IsLabel file) s (prism_process.combinations k)
    (modules_labels (IsLabel file) (prism_process.choice_rewards k.rewards) k.modules tt
    (subst (All (IsAction file)) (ap (firsts bytes_eq) (sym (all_actions file v s file.modules written.modules))) (All-from_recursion (IsAction file) (actions file) (actions_among file))))

module _ (file : prism.File) (m : CarryMap) (h : IsMapToJani file m) where
  abbrev new_action : Name → Name
  new_action = (new_names file).action

  label_agrees : (l : Option Name) → IsLabel file l → jani_label m.labels l ≡ option_map new_action l
  label_agrees None k = refl
  label_agrees (Some a) k = ap (λ ps. jani_label ps (Some a)) h.labels ∙ label_found new_action a (actions file) k

  pair_there : (l : Option Name) → IsLabel file l → has_pair m.labels l ≡ true
  pair_there None k = refl
  pair_there (Some a) k = ap (λ ps. has_pair ps (Some a)) h.labels ∙ pair_stands new_action a (actions file) k

pub has_labels : MapHasLabels
has_labels file m h =
    subst HasLabels (sym h.labels) (have_labels (new_names file).action (actions file) (actions_differ file) (actions file) (actions_distinct file) (each_contained file (actions file)))

-- ---- columns and states
-- a state has a value for each column
module _ (old : prism.File) (new : jani.File) (m : CarryMap) (same : bare_file new ≡ bare_file (translated (flat old))) (h : IsMapToJani (flat old) m) where
  abbrev written : prism.File
  written = flat old

  abbrev n : ℕ
  n = length (element_names new)

  abbrev k : ℕ
  k = length (variables written)

  element_count : length m.locations ≡ n
  element_count = ap length h.locations ∙ length-map (element_names (translated written)) (λ a. 1) ∙ sym (elements_as_many written new same)

  numbers : column_numbers m ≡ counting n k
  numbers =
      ap₂ (λ j cs. map (column_number j) cs) element_count h.columns ∙ numbered_behind n 0 k ∙ (let e : n + 0 ≡ n = omega arith in ap (λ j. counting j k) e)

  is_map : (p q : ℕ) → p ≡ k → q ≡ n + k → IsMap m p q
  is_map p q e f = record {
    each = ap length h.columns ∙ length-map (counting 0 k) Variable ∙ length-counting 0 k ∙ sym e;
    below = subst₂ (λ j is. All (λ i. i < j) is) (sym f) (sym numbers) (all_below n k (n + k) (omega arith));
    differ = subst (λ is. All (λ i. count_by (λ c. nat_eq c i) is ≤ 1) is) (sym numbers) (each_once n k);
    actions = subst (IsDistinct bytes_eq) (sym (ap (map (λ p. p.prism)) h.labels ∙ names_kept (new_names written).action (actions written))) (actions_distinct written);
  }

  homes_are : replicate n at_start ≡ homes new
  homes_are = sym (all_same at_start (element_names new))

  module _ (v : Valuation) (d e : Process) (stepped : IsSteppedPrism old v d) (wide : length e.columns ≡ n + length (lasting new)) where
    scene_columns : length (prism_scene.columns_of written v) ≡ k
    scene_columns =
        ap length (variable_columns written v (is_written_out old).modules) ∙ length-map (variables written) (prism_scene.column (prism_scene.has_condition written) unchanged (prism_scene.constant_names written v unchanged))

    columns_here : length d.columns ≡ k
    columns_here = stepped.columns ∙ ap length (sym (columns-flat old v)) ∙ scene_columns

    columns_there : length e.columns ≡ n + k
    columns_there = wide ∙ ap (λ j. n + j) (lasting_as_many written new same)

    seen : seen_by d ≡ under (prism_process.model written) v
    seen = stepped.seen ∙ ap (λ q. under q v) (sym (model-flat old))

    values : (s : Values) → IsTrue (d.is_state s) → length s ≡ k
    values s i = state_length (prism_scene.columns_of written v) s (subst (λ (p : core.Process Name Fraction Mark Values). IsTrue (p.is_state s)) seen i) ∙ scene_columns

    states : (s : Values) → IsTrue (d.is_state s) → jani_state m (length e.columns) s ≡ state_in new s
    states s i =
        let l = sym (values s i) in
        ap₂ (λ js j. state_by js j s) (numbers ∙ ap (counting n) l) (columns_there ∙ ap (λ j. n + j) l) ∙ homes_first n s ∙ ap (λ r. r ++ s) homes_are

    labels : (s : Values) → All (λ c. IsLabel written c.label) (d.choices s)
    labels s = subst (λ (p : core.Process Name Fraction Mark Values). All (λ c. IsLabel written c.label) (p.choices s)) (sym seen) (choices_labelled written (is_written_out old) v s)

    of_translation : IsMapOf m d e (label_in old) (state_in new)
    of_translation = record {
      columns = is_map (length d.columns) (length e.columns) columns_here columns_there;
      agree = record {
        states = states;
        labels = λ s i. All-weaker (λ c. IsLabel written c.label) (λ c. jani_label m.labels c.label ≡ label_in old c.label) (λ c. label_agrees written m h c.label) (d.choices s) (labels s);
      };
      labels = λ s i. All-weaker (λ c. IsLabel written c.label) (λ c. has_pair m.labels c.label ≡ true) (λ c. pair_there written m h c.label) (d.choices s) (labels s);
    }

pub map_of_translation : IsMapOfTranslation
map_of_translation old new same m h v w d e here there = of_translation old new m same h v d e here there.columns

pub same_by_map : AreSameByMap
same_by_map old new translation m h v w alike none d e here there lawful =
    same_by_its_map m d e (label_in old) (state_in new)
    (subst₂ (λ p q. SameAt p q (label_in old) (state_in new)) (sym here.seen) (sym there.seen) (translation.states v w alike none))
    (map_of_translation old new translation.shape m h v w d e here there) lawful

-- ---- labels are names of actions of the translation
pub is_short : MapIsShort
is_short file new same m h short =
    let f = (new_names file).action in
    let silent = only_if (earns_silently file) zz_silent.name in
    let names : map (λ x. x.name) new.actions ≡ map f (actions file) ++ silent =
    sym (map-map (λ (x : Named). x.name) bare_name new.actions)
    ∙ ap (λ (t : jani.File). map (λ x. x.name) t.actions) same
    ∙ map-map (λ (x : Named). x.name) bare_name (translated file).actions
    ∙ actions_named file in
    let all : Each IsShortName (map f (actions file) ++ silent) =
    subst (Each IsShortName) names (each_map (λ (x : Named). IsShortName x.name) IsShortName (λ (x : Named). x.name) (λ x i. i) new.actions short.actions) in
    subst (Each (λ p. IfSome p.jani IsShortName)) (sym h.labels)
    (each_map (λ a. IsShortName (f a)) (λ p. IfSome p.jani IsShortName) (pair_by f) (λ a i. i) (actions file)
    (map_each IsShortName f (actions file) (each_parts IsShortName (map f (actions file)) silent all).0))

-- ---- places
pub map_aside : MapPlacesAside
map_aside f g m e h =
    let names : new_names f ≡ new_names g = sym (new_names-bare f) ∙ ap new_names e ∙ new_names-bare g in
    let same_actions : actions f ≡ actions g = sym (actions-bare f) ∙ ap actions e ∙ actions-bare g in
    let count : length (variables f) ≡ length (variables g) =
    sym (length-map (variables f) source.bare_var)
    ∙ ap length (sym (variables-bare f))
    ∙ ap (λ q. length (variables q)) e
    ∙ ap length (variables-bare g)
    ∙ length-map (variables g) source.bare_var in
    record {
      locations =
          h.locations
          ∙ all_same 1 (element_names (translated f))
          ∙ ap (λ j. replicate j 1) (elements_as_many g (translated f) (translated_alike f g e))
          ∙ sym (all_same 1 (element_names (translated g)));
      columns = h.columns ∙ ap (λ j. map Variable (counting 0 j)) count;
      labels = h.labels ∙ ap₂ (λ (q : NewNames) xs. map (pair_by q.action) xs) names same_actions;
    }

-- ---- the code's locations
pub one_location_each : (file : prism.File) (count : ℕ) → count ≡ length file.modules →
    replicate {A = ℕ} (count + (if has_monitor file then 1 else 0)) 1 ≡ map (λ a. 1) (element_names (translated file))
one_location_each file count e =
    ap (λ j. replicate {A = ℕ} (j + (if has_monitor file then 1 else 0)) 1) e
    ∙ ap (λ j. replicate {A = ℕ} j 1) (sym (element_total file ∙ one_automaton_each file))
    ∙ sym (all_same 1 (element_names (translated file)))
