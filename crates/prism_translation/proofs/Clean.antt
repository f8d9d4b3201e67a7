-- What the parts of a file without faults have, each by its check.
use Rattle.std.specs.Prelude.{◌≡◌, ◌<◌, List, [], ◌∷◌, ◌++◌, length, false, ◌||◌, Option, Some, None, nat_eq}
use Rattle.std.specs.List.{flat_map, AllByRecursion as OfAll}
use Rattle.std.proofs.Common.{refl, sym, ap, subst, ◌∙◌, arith}
use Rattle.std.proofs.lemmas.Option.{slice_get_past}
use Rattle.std.proofs.Math.Path.{fun_ext}
use Rattle.std.proofs.Math.Bool.{or-false}
use Rattle.basics.specs.Each.{each_then, empty_each}
use Rattle.basics.specs.Lists.{append_right, append_left, IsNotEmpty as HasItems}
use Rattle.bridge_io.specs.declared.reason.Reason.TheVariants.{TwiceNamed, RepeatedAutomaton, BranchReward, WrittenTwice, Nothing}
use Rattle.name_rules.proofs.Plain.{no_fault}
use Rattle.jani_tree.specs.Syntax.{Var, Automaton, File, element_names}
use Rattle.jani_tree.specs.Form.{AutomatonRead}
use Rattle.std.specs.Option.{option_or as else_thing}
use Rattle.jani_check.specs.Things.{Name, global_thing, beside}
use Rattle.jani_check.specs.Demands.{Demand, automaton_demands, outer_demands}
use Rattle.jani_check.specs.NameFaults.{is_among, doubled, doubled_after, var_names, global_names, location_names, automaton_names, doubled_in, doubled_names, unless_known, unknown_by, unknown_in, unknown_names, circles, repeated_elements, no_element, bad_vector, composition_faults, name_faults}
use Rattle.jani_check.specs.TypeFaults.{var_faults, demand_faults, targets, repeated, edge_repeats, automaton_faults, clashing_writes, type_faults}
use Rattle.jani_check.specs.ProfileFaults.{start_faults, demand_profile, some_differ, branch_rewards, automaton_profile, given_after, two_writers, profile_faults}
use Rattle.name_rules.specs.Least.{or_else}
use Rattle.jani_check.specs.Faults.{IsChecked}
use Rattle.jani_check.proofs.Profiled.{first_none, rest_none}
use Rattle.jani_meaning.specs.Elements as jani
use Rattle.name_table.specs.PrismAsks.{outside}
use Rattle.prism_translation.proofs.Distinct.{AreDistinct, AreNew, once_each, distinct_names, distinct_front, distinct_rest, distinct_apart}
use Rattle.prism_translation.proofs.Scopes.{vars_of, own_vars, const_names, NamesApart}
use Rattle.jani_meaning.specs.LoopLaws.{element_count}

-- ---- demands
-- a demand without faults where these variables are known besides the global ones
pub record IsJudged (file : File) (vars : List Var) (d : Demand) : Type 0 where
  pub names : unknown_by (λ x. is_among (global_names file) x || is_among (var_names vars) x) d ≡ []
  pub types : demand_faults (beside (global_thing file) vars) d ≡ []
  pub profile : demand_profile (beside (global_thing file) vars) d ≡ []

judged_each : (file : File) (vars : List Var) (ds : List Demand) → flat_map (unknown_by (λ x. is_among (global_names file) x || is_among (var_names vars) x)) ds ≡ [] →
    flat_map (demand_faults (beside (global_thing file) vars)) ds ≡ [] → flat_map (demand_profile (beside (global_thing file) vars)) ds ≡ [] → OfAll (IsJudged file vars) ds
judged_each file vars [] n t p = tt
judged_each file vars (d ∷ ds) n t p = (
  record {
    names = append_left (unknown_by (λ x. is_among (global_names file) x || is_among (var_names vars) x) d) _ n;
    types = append_left (demand_faults (beside (global_thing file) vars) d) _ t;
    profile = append_left (demand_profile (beside (global_thing file) vars) d) _ p;
  },
  judged_each file vars ds (append_right (unknown_by (λ x. is_among (global_names file) x || is_among (var_names vars) x) d) _ n)
      (append_right (demand_faults (beside (global_thing file) vars) d) _ t) (append_right (demand_profile (beside (global_thing file) vars) d) _ p),
)

-- no variables besides
none_besides : {X : Type 0} (g : Name → Option X) → (λ (x : Name). else_thing (g x) None) ≡ g
none_besides g = fun_ext (λ x. by_some (g x))
  where
    by_some : {X : Type 0} (o : Option X) → else_thing o None ≡ o
    by_some None = refl
    by_some (Some x) = refl

-- ---- automata
-- an automaton without faults where these variables are known besides the global ones
pub record IsJudgedIn (file : File) (vars : List Var) (a : Automaton) : Type 0 where
  pub form : AutomatonRead HasItems a
  pub names : NamesApart file vars
  pub locations : AreDistinct (location_names a)
  pub demands : OfAll (IsJudged file vars) (automaton_demands a)
  pub values : OfAll (λ l. AreDistinct (targets l.values)) a.locations
  pub writes : OfAll (λ e. OfAll (λ d. AreDistinct (targets d.writes)) e.destinations) a.edges
  pub branches : OfAll (λ e. some_differ (beside (global_thing file) vars) e.destinations ≡ false) a.edges
  pub starts : OfAll (λ x. start_faults x ≡ []) a.variables
  pub kinds : flat_map var_faults a.variables ≡ []
  pub repeats : flat_map edge_repeats a.edges ≡ []

module _ (file : File) (c : IsChecked file) where
  pub no_names : name_faults file ≡ []
  no_names = first_none (name_faults file) (or_else (type_faults file) (profile_faults file)) c.clean

  later_none : or_else (type_faults file) (profile_faults file) ≡ []
  later_none = rest_none (name_faults file) (or_else (type_faults file) (profile_faults file)) c.clean

  no_types : type_faults file ≡ []
  no_types = first_none (type_faults file) (profile_faults file) later_none

  no_profile : profile_faults file ≡ []
  no_profile = rest_none (type_faults file) (profile_faults file) later_none

  -- ---- names that are declared twice
  pub once_here : doubled_names file ≡ []
  once_here = append_left (doubled_names file) _ no_names

  globals_once : AreDistinct (global_names file)
  globals_once = distinct_names TwiceNamed (global_names file) (append_left (doubled TwiceNamed (global_names file)) _ once_here)

  automata_once : OfAll (λ a. doubled_in (global_names file) a ≡ []) file.automata
  automata_once =
      empty_each (doubled_in (global_names file)) file.automata
      (append_left (flat_map (doubled_in (global_names file)) file.automata) _
      (append_right (doubled TwiceNamed (automaton_names file)) _ (append_right (doubled TwiceNamed file.actions) _ (append_right (doubled TwiceNamed (global_names file)) _ once_here))))

  names_apart : (vars : List Var) → AreDistinct (var_names vars) → AreNew (global_names file) (var_names vars) → NamesApart file vars
  names_apart vars once new = record {
    constants = distinct_front (const_names file) (var_names file.variables) globals_once;
    globals = distinct_rest (const_names file) (var_names file.variables) globals_once;
    own_once = once;
    outside = distinct_apart (const_names file) (var_names file.variables) globals_once;
    inside = new;
  }

  pub names_apart_outside : NamesApart file []
  names_apart_outside = names_apart [] tt tt

  -- ---- names that are not declared
  rest_known : unknown_names file ≡ []
  rest_known = append_left (unknown_names file) _ (append_right (doubled_names file) _ no_names)

  automata_known : OfAll (λ a. unknown_in (is_among (global_names file)) (is_among file.actions) a ≡ []) file.automata
  automata_known =
      empty_each (unknown_in (is_among (global_names file)) (is_among file.actions)) file.automata
      (append_left (flat_map (unknown_in (is_among (global_names file)) (is_among file.actions)) file.automata) _
      (append_right (flat_map (unknown_by (is_among (global_names file))) (outer_demands file)) _ rest_known))

  pub elements_known : OfAll (λ n. unless_known (is_among (automaton_names file)) n ≡ []) (element_names file)
  elements_known =
      empty_each (unless_known (is_among (automaton_names file))) (element_names file)
      (append_left (flat_map (unless_known (is_among (automaton_names file))) (element_names file)) _
      (append_right (flat_map (unknown_in (is_among (global_names file)) (is_among file.actions)) file.automata) _
      (append_right (flat_map (unknown_by (is_among (global_names file))) (outer_demands file)) _ rest_known)))

  pub no_circles : circles file ≡ []
  no_circles = append_left (circles file) _ (append_right (unknown_names file) _ (append_right (doubled_names file) _ no_names))

  -- ---- the composition
  composed : composition_faults file ≡ []
  composed = append_right (circles file) _ (append_right (unknown_names file) _ (append_right (doubled_names file) _ no_names))

  pub elements_once : AreDistinct (element_names file)
  elements_once = distinct_names RepeatedAutomaton (element_names file) (append_left (repeated_elements file) _ composed)

  pub some_elements : nat_eq (length (element_names file)) 0 ≡ false
  some_elements =
      no_fault (nat_eq (length (element_names file)) 0) file.elements_at Nothing (append_left (no_element file) _ (append_right (repeated_elements file) _ composed))

  pub has_element : 0 < length (element_names file)
  has_element = by_list (element_names file) some_elements
    where
      by_list : {A : Type 0} (xs : List A) → nat_eq (length xs) 0 ≡ false → 0 < length xs
      by_list [] e = absurd cc
      by_list (x ∷ xs) e = omega arith

  pub vectors_fit : OfAll (λ v. bad_vector (length (element_names file)) v ≡ []) file.vectors
  vectors_fit = empty_each (bad_vector (length (element_names file))) file.vectors (append_right (no_element file) _ (append_right (repeated_elements file) _ composed))

  -- ---- types
  types_later : flat_map (demand_faults (global_thing file)) (outer_demands file) ++ (flat_map (automaton_faults (global_thing file)) file.automata ++ flat_map (clashing_writes file) file.vectors) ≡ []
  types_later = append_right (flat_map var_faults file.variables) _ no_types

  pub kinds_outside : flat_map var_faults file.variables ≡ []
  kinds_outside = append_left (flat_map var_faults file.variables) _ no_types

  automata_typed : OfAll (λ a. automaton_faults (global_thing file) a ≡ []) file.automata
  automata_typed =
      empty_each (automaton_faults (global_thing file)) file.automata
      (append_left (flat_map (automaton_faults (global_thing file)) file.automata) _ (append_right (flat_map (demand_faults (global_thing file)) (outer_demands file)) _ types_later))

  -- ---- the profile
  pub starts_outside : OfAll (λ x. start_faults x ≡ []) file.variables
  starts_outside = empty_each start_faults file.variables (append_left (flat_map start_faults file.variables) _ no_profile)

  profile_later : flat_map (automaton_profile (global_thing file)) file.automata ++ (given_after (global_thing file) (λ x. false) file.automata ++ flat_map (two_writers file) file.vectors) ≡ []
  profile_later = append_right (flat_map (demand_profile (global_thing file)) (outer_demands file)) _ (append_right (flat_map start_faults file.variables) _ no_profile)

  automata_profile : OfAll (λ a. automaton_profile (global_thing file) a ≡ []) file.automata
  automata_profile = empty_each (automaton_profile (global_thing file)) file.automata (append_left (flat_map (automaton_profile (global_thing file)) file.automata) _ profile_later)

  pub given_once : given_after (global_thing file) (λ x. false) file.automata ≡ []
  given_once = append_left (given_after (global_thing file) (λ x. false) file.automata) _ (append_right (flat_map (automaton_profile (global_thing file)) file.automata) _ profile_later)

  pub one_writer_each : OfAll (λ v. two_writers file v ≡ []) file.vectors
  one_writer_each =
      empty_each (two_writers file) file.vectors
      (append_right (given_after (global_thing file) (λ x. false) file.automata) _ (append_right (flat_map (automaton_profile (global_thing file)) file.automata) _ profile_later))

  -- ---- what stands outside of automata
  pub judged_outside : OfAll (IsJudged file []) (outer_demands file)
  judged_outside =
      judged_each file [] (outer_demands file)
      (ap (λ k. flat_map (unknown_by k) (outer_demands file)) (fun_ext (λ x. or-false (is_among (global_names file) x)))
      ∙ append_left (flat_map (unknown_by (is_among (global_names file))) (outer_demands file)) _ rest_known)
      (ap (λ g. flat_map (demand_faults g) (outer_demands file)) (none_besides (global_thing file))
      ∙ append_left (flat_map (demand_faults (global_thing file)) (outer_demands file)) _ types_later)
      (ap (λ g. flat_map (demand_profile g) (outer_demands file)) (none_besides (global_thing file))
      ∙ append_left (flat_map (demand_profile (global_thing file)) (outer_demands file)) _ (append_right (flat_map start_faults file.variables) _ no_profile))

  pub none_outside : own_vars file (outside file) ≡ []
  none_outside =
      ap vars_of (slice_get_past (jani.elements file) (outside file) (let e = element_count file in omega arith))

  pub names_outside : NamesApart file (own_vars file (outside file))
  names_outside = subst (NamesApart file) (sym none_outside) (names_apart_outside)

  pub demands_outside : OfAll (IsJudged file (own_vars file (outside file))) (outer_demands file)
  demands_outside = subst (λ vs. OfAll (IsJudged file vs) (outer_demands file)) (sym none_outside) (judged_outside)

  -- ---- automata
  judged : (a : Automaton) → AutomatonRead HasItems a → doubled_in (global_names file) a ≡ [] → unknown_in (is_among (global_names file)) (is_among file.actions) a ≡ [] →
      automaton_faults (global_thing file) a ≡ [] → automaton_profile (global_thing file) a ≡ [] → IsJudgedIn file a.variables a
  judged a form once known types profile =
      let own = once_each TwiceNamed (global_names file) (var_names a.variables) (append_left (doubled_after TwiceNamed (global_names file) (var_names a.variables)) _ once) in
      let later = append_right (flat_map var_faults a.variables) _ types in
      let repeats = append_right (flat_map (demand_faults (beside (global_thing file) a.variables)) (automaton_demands a)) _ later in
      let rest = append_right (flat_map start_faults a.variables) _ profile in
      record {
        form = form;
        names = names_apart a.variables own.1 own.0;
        locations = distinct_names TwiceNamed (location_names a) (append_left (doubled TwiceNamed (location_names a)) (doubled TwiceNamed a.initial) (append_right (doubled_after TwiceNamed (global_names file) (var_names a.variables)) _ once));
        demands =
            judged_each file a.variables (automaton_demands a)
            (append_left (flat_map (unknown_by (λ x. is_among (global_names file) x || is_among (var_names a.variables) x)) (automaton_demands a)) _ known)
            (append_left (flat_map (demand_faults (beside (global_thing file) a.variables)) (automaton_demands a)) _ later)
            (append_left (flat_map (demand_profile (beside (global_thing file) a.variables)) (automaton_demands a)) _ rest);
        values =
            each_then (λ l. repeated l.values ≡ []) (λ l. AreDistinct (targets l.values)) (λ l e. distinct_names WrittenTwice (targets l.values) e) a.locations
            (empty_each (λ l. repeated l.values) a.locations (append_left (flat_map (λ l. repeated l.values) a.locations) _ repeats));
        writes =
            each_then (λ e. edge_repeats e ≡ []) (λ e. OfAll (λ d. AreDistinct (targets d.writes)) e.destinations)
            (λ e h. each_then (λ d. repeated d.writes ≡ []) (λ d. AreDistinct (targets d.writes)) (λ d f. distinct_names WrittenTwice (targets d.writes) f) e.destinations
            (empty_each (λ d. repeated d.writes) e.destinations h))
            a.edges (empty_each edge_repeats a.edges (append_right (flat_map (λ l. repeated l.values) a.locations) _ repeats));
        branches =
            each_then (λ e. branch_rewards (beside (global_thing file) a.variables) e ≡ []) (λ e. some_differ (beside (global_thing file) a.variables) e.destinations ≡ false)
            (λ e h. no_fault (some_differ (beside (global_thing file) a.variables) e.destinations) e.at BranchReward h) a.edges
            (empty_each (branch_rewards (beside (global_thing file) a.variables)) a.edges
            (append_right (flat_map (demand_profile (beside (global_thing file) a.variables)) (automaton_demands a)) _ rest));
        starts = empty_each start_faults a.variables (append_left (flat_map start_faults a.variables) _ profile);
        kinds = append_left (flat_map var_faults a.variables) _ types;
        repeats = append_right (flat_map (λ l. repeated l.values) a.locations) _ repeats;
      }

  all_judged : (as_ : List Automaton) → OfAll (AutomatonRead HasItems) as_ → OfAll (λ a. doubled_in (global_names file) a ≡ []) as_ →
      OfAll (λ a. unknown_in (is_among (global_names file)) (is_among file.actions) a ≡ []) as_ → OfAll (λ a. automaton_faults (global_thing file) a ≡ []) as_ →
      OfAll (λ a. automaton_profile (global_thing file) a ≡ []) as_ → OfAll (λ a. IsJudgedIn file a.variables a) as_
  all_judged [] f o k t p = tt
  all_judged (a ∷ as_) f o k t p = (judged a f.0 o.0 k.0 t.0 p.0, all_judged as_ f.1 o.1 k.1 t.1 p.1)

  pub judged_automata : OfAll (λ a. IsJudgedIn file a.variables a) file.automata
  judged_automata = all_judged file.automata c.form.automata automata_once automata_known automata_typed automata_profile
