-- What folding leaves as it is: names, what they stand for, and what edges and locations assign to.
use Rattle.std.specs.Prelude.{◌≡◌, List, [], ◌∷◌, ◌++◌, map, Bool, true, false, ◌&&◌, ◌||◌, Option, Some, None, if◌then◌else◌}
use Rattle.std.specs.List.{filter, flat_map, list_any}
use Rattle.std.specs.Option.{option_map, option_or as or_else}
use Rattle.std.proofs.Common.{refl, ap, ap₂, ◌∙◌}
use Rattle.std.proofs.Math.Path.{fun_ext}
use Rattle.basics.specs.Mapped.{any_mapped, found_mapped, gathered, some_mapped, walked}
use Rattle.basics.specs.Options.{if_some}
use Rattle.bridge_io.specs.declared.reason.Named.{Named}
use Rattle.bridge_io.specs.declared.reason.Reason.TheVariants.{TwiceNamed, TwoRewardWriters, WrittenTwice}
use Rattle.op_trees.specs.declared.tree.Ty.{Ty}
use Rattle.op_trees.specs.Names.{is_called}
use Rattle.name_rules.specs.Doubled.{doubled, doubled_after}
use Rattle.name_rules.specs.Least.{fault, fault_if}
use Rattle.name_rules.specs.Names.{Name, is_among}
use Rattle.name_rules.specs.Unknown.{unless_known}
use Rattle.process_core.specs.Product.{map-map}
use Rattle.process_core.specs.Instance.{Valuation}
use Rattle.jani_tree.specs.Syntax.{VarKind, boolean, integer, number, real_bounded, one_sided, bounded, Var, Write, Edge, Automaton, Vector, File, element_names}
use Rattle.jani_check.specs.declared.things.Thing.{Thing}
use Rattle.jani_check.specs.declared.things.Thing.TheVariants.{Transient, Variable}
use Rattle.jani_check.specs.Things.{automaton_called, beside, const_called, const_thing, global_thing, is_lasting, is_reward, kind_type, var_called, var_thing}
use Rattle.jani_check.specs.NameFaults.{actions_used, automaton_names, doubled_in, doubled_names, repeated_enabled, edge_locations, global_names, location_names, locations_used, unknown_within, var_names}
use Rattle.jani_check.specs.TypeFaults.{assigned_by, clashing_writes, edge_repeats, edge_shared, edge_writes, has_action, kind_fault, meet, participants, repeated, repeated_writes, shared_by, taken_part, targets, var_faults, with_automaton}
use Rattle.jani_check.specs.ProfileFaults.{assigns_reward, given_after, given_again, given_by, rewards_with, two_hold, two_writers}
use Rattle.constant_folding.specs.Known.{Known}
use Rattle.specialise_jani.specs.Specialised.{folded_automaton, folded_destination, folded_edge, folded_kind, folded_location, folded_var, folded_write, specialised_by, specialised_const}

module _ (K : Known) where
  -- ---- variables
  pub kind_same : (k : VarKind) → kind_type (folded_kind K k) ≡ kind_type k
  kind_same boolean = refl
  kind_same integer = refl
  kind_same number = refl
  kind_same real_bounded = refl
  kind_same one_sided = refl
  kind_same (bounded l h) = refl

  kind_fault_same : (transient : Bool) (k : VarKind) → kind_fault transient (folded_kind K k) ≡ kind_fault transient k
  kind_fault_same t boolean = refl
  kind_fault_same t integer = refl
  kind_fault_same t number = refl
  kind_fault_same t real_bounded = refl
  kind_fault_same t one_sided = refl
  kind_fault_same true (bounded l h) = refl
  kind_fault_same false (bounded l h) = refl

  pub var_faults_same : (x : Var) → var_faults (folded_var K x) ≡ var_faults x
  var_faults_same x = ap (λ o. map (fault x.kind_at) (if_some o)) (kind_fault_same x.transient x.kind)

  pub var_names_same : (xs : List Var) → var_names (map (folded_var K) xs) ≡ var_names xs
  var_names_same xs = map-map (λ x. x.name) (folded_var K) xs

  thing_same : (x : Var) → var_thing (folded_var K x) ≡ var_thing x
  thing_same x = ap (λ (t : Ty). if x.transient then Transient t else Variable t) (kind_same x.kind)

  called_same : (vars : List Var) (x : Name) → option_map var_thing (var_called (map (folded_var K) vars) x) ≡ option_map var_thing (var_called vars x)
  called_same vars x =
      ap (option_map var_thing) (found_mapped (folded_var K) (λ v. is_called x v.name) (λ v. is_called x v.name) (λ v. refl) vars)
      ∙ some_mapped (folded_var K) var_thing var_thing thing_same (var_called vars x)

  pub beside_same : (global : Name → Option Thing) (vars : List Var) → beside global (map (folded_var K) vars) ≡ beside global vars
  beside_same global vars = fun_ext (λ x. ap (or_else (global x)) (called_same vars x))

  -- ---- what is assigned
  targets_same : (ws : List Write) → targets (map (folded_write K) ws) ≡ targets ws
  targets_same ws = map-map (λ w. w.target) (folded_write K) ws

  edge_repeats_same : (e : Edge) → edge_repeats (folded_edge K e) ≡ edge_repeats e
  edge_repeats_same e =
      walked (folded_destination K) (λ d. repeated d.writes) (λ d. repeated d.writes) (λ d. ap (doubled WrittenTwice) (targets_same d.writes)) e.destinations

  pub repeats_same : (a : Automaton) → repeated_writes (folded_automaton K a) ≡ repeated_writes a
  repeats_same a =
      ap₂ (λ xs ys. xs ++ ys)
      (walked (folded_location K) (λ l. repeated l.values) (λ l. repeated l.values) (λ l. ap (doubled WrittenTwice) (targets_same l.values)) a.locations)
      (walked (folded_edge K) edge_repeats edge_repeats edge_repeats_same a.edges)

  writes_same : (e : Edge) → edge_writes (folded_edge K e) ≡ map (folded_write K) (edge_writes e)
  writes_same e = gathered (folded_write K) (folded_destination K) (λ d. d.writes) (λ d. d.writes) (λ d. refl) e.destinations

  assigned_same : (p : Name → Bool) (e : Edge) → assigned_by p (folded_edge K e) ≡ assigned_by p e
  assigned_same p e =
      ap (filter p) (ap (map (λ w. w.target.name)) (writes_same e) ∙ map-map (λ w. w.target.name) (folded_write K) (edge_writes e))

  shared_same : (global : Name → Option Thing) (a : Automaton) (x : Name) → shared_by global (folded_automaton K a) x ≡ shared_by global a x
  shared_same global a x =
      walked (folded_edge K) (λ e. edge_shared (λ y. is_lasting (global y)) e x) (λ e. edge_shared (λ y. is_lasting (global y)) e x)
      (λ e. ap (λ l. if has_action x e then l else []) (assigned_same (λ y. is_lasting (global y)) e)) a.edges

  assigns_same : (things : Name → Option Thing) (e : Edge) → assigns_reward things (folded_edge K e) ≡ assigns_reward things e
  assigns_same things e =
      ap (list_any (λ w. is_reward (things w.target.name))) (writes_same e)
      ∙ any_mapped (folded_write K) (λ w. is_reward (things w.target.name)) (λ w. is_reward (things w.target.name)) (λ w. refl) (edge_writes e)

  rewards_same : (global : Name → Option Thing) (a : Automaton) (x : Name) → rewards_with global (folded_automaton K a) x ≡ rewards_with global a x
  rewards_same global a x =
      any_mapped (folded_edge K) (λ e. has_action x e && assigns_reward (beside global (map (folded_var K) a.variables)) e) (λ e. has_action x e && assigns_reward (beside global a.variables) e)
      (λ e. ap (λ b. has_action x e && b)
      (assigns_same (beside global (map (folded_var K) a.variables)) e ∙ ap (λ t. assigns_reward t e) (beside_same global a.variables))) a.edges

  given_by_same : (a : Automaton) → given_by (folded_automaton K a) ≡ given_by a
  given_by_same a = walked (folded_location K) (λ l. targets l.values) (λ l. targets l.values) (λ l. targets_same l.values) a.locations

  pub given_after_same : (global : Name → Option Thing) (earlier : Name → Bool) (as_ : List Automaton) →
      given_after global earlier (map (folded_automaton K) as_) ≡ given_after global earlier as_
  given_after_same global earlier [] = refl
  given_after_same global earlier (a ∷ rest) =
      ap₂ (λ (xs : List Named) (k : Name → Bool). flat_map (given_again global earlier) xs ++ given_after global (λ x. earlier x || k x) (map (folded_automaton K) rest))
      (given_by_same a) (ap is_among (given_by_same a))
      ∙ ap (λ fs. flat_map (given_again global earlier) (given_by a) ++ fs) (given_after_same global (λ x. earlier x || is_among (given_by a) x) rest)

  -- ---- names of locations and actions
  locations_same : (a : Automaton) → location_names (folded_automaton K a) ≡ location_names a
  locations_same a = map-map (λ l. l.name) (folded_location K) a.locations

  used_same : (a : Automaton) → locations_used (folded_automaton K a) ≡ locations_used a
  used_same a =
      ap (λ ns. a.initial ++ ns)
      (walked (folded_edge K) edge_locations edge_locations (λ e. ap (λ ns. e.location ∷ ns) (map-map (λ d. d.location) (folded_destination K) e.destinations)) a.edges)

  actions_same : (a : Automaton) → actions_used (folded_automaton K a) ≡ actions_used a
  actions_same a = walked (folded_edge K) (λ e. if_some e.action) (λ e. if_some e.action) (λ e. refl) a.edges

  pub within_same : (actions : Name → Bool) (a : Automaton) → unknown_within actions (folded_automaton K a) ≡ unknown_within actions a
  within_same actions a =
      ap₂ (λ xs ys. xs ++ ys)
      (ap₂ (λ ls us. flat_map (unless_known (is_among ls)) us) (locations_same a) (used_same a))
      (ap (flat_map (unless_known actions)) (actions_same a))

  doubled_in_same : (global : List Named) (a : Automaton) → doubled_in global (folded_automaton K a) ≡ doubled_in global a
  doubled_in_same global a =
      ap₂ (λ xs ys. doubled_after TwiceNamed global xs ++ (doubled TwiceNamed ys ++ doubled TwiceNamed a.initial)) (var_names_same a.variables) (locations_same a)

  -- ---- the file
  module _ (given : Valuation) (file : File) where
    abbrev new : File
    new = specialised_by given K file

    const_same : (x : Name) → option_map const_thing (const_called new x) ≡ option_map const_thing (const_called file x)
    const_same x =
        ap (option_map const_thing) (found_mapped (specialised_const given K) (λ c. is_called x c.name) (λ c. is_called x c.name) (λ c. refl) file.constants)
        ∙ some_mapped (specialised_const given K) const_thing const_thing (λ c. refl) (const_called file x)

    pub things_same : global_thing new ≡ global_thing file
    things_same = fun_ext (λ x. ap₂ or_else (const_same x) (called_same file.variables x))

    pub globals_same : global_names new ≡ global_names file
    globals_same = ap₂ (λ xs ys. xs ++ ys) (map-map (λ c. c.name) (specialised_const given K) file.constants) (var_names_same file.variables)

    pub automata_same : automaton_names new ≡ automaton_names file
    automata_same = map-map (λ a. a.name) (folded_automaton K) file.automata

    pub doubled_same : doubled_names new ≡ doubled_names file
    doubled_same =
        ap₂ (λ xs ys. xs ++ ys) (ap (doubled TwiceNamed) globals_same)
        (ap (λ ys. doubled TwiceNamed file.actions ++ ys)
        (ap₂ (λ xs ys. xs ++ ys) (ap (doubled TwiceNamed) automata_same)
        (ap (λ xs. xs ++ flat_map repeated_enabled file.elements)
        (ap (λ ns. flat_map (doubled_in ns) (map (folded_automaton K) file.automata)) globals_same
        ∙ walked (folded_automaton K) (doubled_in (global_names file)) (doubled_in (global_names file)) (doubled_in_same (global_names file)) file.automata))))

    automaton_same : (x : Name) → automaton_called new x ≡ option_map (folded_automaton K) (automaton_called file x)
    automaton_same x = found_mapped (folded_automaton K) (λ a. is_called x a.name) (λ a. is_called x a.name) (λ a. refl) file.automata

    module _ {X : Type 0} (f : Automaton → Name → X) (none : X) (same : (a : Automaton) (x : Name) → f (folded_automaton K a) x ≡ f a x) where
      part_same : (e : Named) (p : Option Named) → taken_part f none new e p ≡ taken_part f none file e p
      part_same e None = refl
      part_same e (Some n) = ap (with_automaton (λ a. f a n.name) none) (automaton_same e.name) ∙ by (automaton_called file e.name)
        where
          by : (o : Option Automaton) → with_automaton (λ a. f a n.name) none (option_map (folded_automaton K) o) ≡ with_automaton (λ a. f a n.name) none o
          by None = refl
          by (Some a) = same a n.name

      participants_same : (es : List Named) (ps : List (Option Named)) → participants f none new es ps ≡ participants f none file es ps
      participants_same [] ps = refl
      participants_same (e ∷ es) [] = refl
      participants_same (e ∷ es) (p ∷ ps) = ap₂ (λ x xs. x ∷ xs) (part_same e p) (participants_same es ps)

    pub clashes_same : (v : Vector) → clashing_writes new v ≡ clashing_writes file v
    clashes_same v =
        ap (λ xs. fault_if (meet xs) v.at WrittenTwice)
        (ap (λ t. participants (shared_by t) [] new (element_names file) v.parts) things_same
        ∙ participants_same (shared_by (global_thing file)) [] (shared_same (global_thing file)) (element_names file) v.parts)

    pub writers_same : (v : Vector) → two_writers new v ≡ two_writers file v
    writers_same v =
        ap (λ xs. fault_if (two_hold xs) v.at TwoRewardWriters)
        (ap (λ t. participants (rewards_with t) false new (element_names file) v.parts) things_same
        ∙ participants_same (rewards_with (global_thing file)) false (rewards_same (global_thing file)) (element_names file) v.parts)
