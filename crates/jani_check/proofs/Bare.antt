-- The faults of a JANI file without its places are its faults without theirs.
use Rattle.std.specs.Prelude.{◌≡◌, ℕ, zero, suc, List, [], ◌∷◌, map, length, Bool, true, false, not, ◌&&◌, ◌||◌, Option, Some, None, is_some, nat_eq, bytes_eq, if◌then◌else◌}
use Rattle.std.specs.List.{flat_map, filter, find, list_any}
use Rattle.std.specs.Option.{option_map, option_or as or_else}
use Rattle.std.proofs.Common.{refl, sym, ap, ap₂, ◌∙◌}
use Rattle.std.proofs.lemmas.List.{length-map}
use Rattle.std.proofs.Math.Path.{fun_ext}
use Rattle.basics.specs.Members.{any_agree}
use Rattle.bridge_io.specs.declared.reason.Named.{Named}
use Rattle.bridge_io.specs.declared.reason.Reason.{Reason}
use Rattle.bridge_io.specs.declared.reason.Reason.TheVariants.{TwiceNamed, RepeatedAutomaton, WrongType, WrittenTwice, NotConstant, ForeignWrite, TransientRead, TransientTwoAutomata, LabelOnEdge, TransientInitial, Cycle, BadVector, Nothing, BranchReward, TwoRewardWriters}
use Rattle.bridge_io.specs.declared.reason.Fault.{Fault}
use Rattle.op_trees.specs.declared.tree.Ty.{Ty}
use Rattle.op_trees.specs.declared.tree.Ty.TheVariants as T
use Rattle.op_trees.specs.Tree.{Truth, Number, Name as At, One, Two, Three, bare}
use Rattle.op_trees.specs.Types.{Types, type_in, misfits}
use Rattle.op_trees.specs.TypeLaws.{type-bare, noughts, misfit-bare}
use Rattle.op_trees.specs.Names.{names_of, offset_of, bare_name, is_called}
use Rattle.op_trees.specs.NameLaws.{offset-bare, some_name-bare, names-bare}
use Rattle.jani_table.specs.Operators.{jani_meaning, op_text}
use Rattle.jani_tree.specs.Syntax.{Expression, Const, VarKind, boolean, integer, number, real_bounded, one_sided, bounded, Var, Write, Location, Destination, Edge, Automaton, Element, Vector, File, element_names}
use Rattle.jani_tree.specs.Laws.{element_names-bare}
use Rattle.jani_tree.specs.Places.{bare_const, bare_kind, bare_var, bare_write, bare_location, bare_destination, bare_edge, bare_automaton, bare_element, bare_part, bare_vector, bare_file}
use Rattle.basics.specs.Mapped.{mapped, walked, found_mapped, kept_mapped, any_mapped, joined, turned, gathered}
use Rattle.jani_check.specs.declared.things.Thing.{Thing}
use Rattle.jani_check.specs.declared.things.Thing.TheVariants.{Variable, Transient}
use Rattle.op_trees.specs.declared.wanted.Wanted.{Wanted}
use Rattle.op_trees.specs.declared.wanted.Wanted.TheVariants as W
use Rattle.name_rules.specs.Least.{fault, fault_if}
use Rattle.jani_check.specs.Things.{kind_type, const_thing, var_thing, var_called, automaton_called, global_thing, beside, types_by, is_constant, is_lasting, is_transient, is_label, is_reward}
use Rattle.name_rules.specs.Names.{Name, is_among}
use Rattle.basics.specs.Options.{if_some, if_some-map}
use Rattle.jani_check.specs.Demands.{Demand, fixed, varying, assigned, given, const_demands, bound_demands, var_demands, location_demands, destination_demands, edge_demands, automaton_demands, outer_demands}
use Rattle.jani_check.specs.NameFaults.{var_names, global_names, location_names, automaton_names, doubled_in, repeated_enabled, doubled_names, names_used, unless_known, unknown_by, edge_locations, locations_used, actions_used, unknown_in, vector_actions, unknown_enabled, unknown_names, uses, uses_of, leads_to, is_circular, circular, circles, bad_vector, composition_faults, name_faults}
use Rattle.name_rules.specs.Doubled.{doubled_after, doubled}
use Rattle.name_rules.proofs.Placeless.{placeless, at_nought, tested, first-bare, after-bare, doubled-bare, among-bare, unknown-bare}
use Rattle.op_trees.specs.Wanted.{is_unwanted, wanted_by}
use Rattle.jani_check.specs.TypeFaults.{kind_fault, var_faults, type_faults_of, is_variable, wanted_at, demand_faults, targets, repeated, edge_repeats, repeated_writes, automaton_faults, has_action, edge_writes, with_automaton, taken_part, participants, assigned_by, edge_shared, shared_by, meet, clashing_writes, type_faults}
use Rattle.jani_check.specs.ProfileFaults.{read_fault, reads, demand_profile, is_first, first_fault, start_faults, given_by, given_again, given_after, same_tree, value_for, rewards_by, lacks, differ, some_differ, branch_rewards, automaton_profile, assigns_reward, rewards_with, two_hold, two_writers, profile_faults}
use Rattle.jani_check.specs.Faults.{faults}

-- ---- names that are declared twice
vars-bare : (xs : List Var) → var_names (map bare_var xs) ≡ map bare_name (var_names xs)
vars-bare xs = turned bare_name bare_var (λ x. x.name) (λ x. x.name) (λ x. refl) xs

locations-bare : (a : Automaton) → location_names (bare_automaton a) ≡ map bare_name (location_names a)
locations-bare a = turned bare_name bare_location (λ l. l.name) (λ l. l.name) (λ l. refl) a.locations

module _ (file : File) where
  globals-bare : global_names (bare_file file) ≡ map bare_name (global_names file)
  globals-bare =
      joined bare_name (map (λ c. c.name) (map bare_const file.constants)) (var_names (map bare_var file.variables)) (map (λ c. c.name) file.constants) (var_names file.variables)
      (turned bare_name bare_const (λ c. c.name) (λ c. c.name) (λ c. refl) file.constants) (vars-bare file.variables)

  automata-bare : automaton_names (bare_file file) ≡ map bare_name (automaton_names file)
  automata-bare = turned bare_name bare_automaton (λ a. a.name) (λ a. a.name) (λ a. refl) file.automata

  doubled_in-bare : (a : Automaton) → doubled_in (global_names (bare_file file)) (bare_automaton a) ≡ map placeless (doubled_in (global_names file) a)
  doubled_in-bare a =
      joined placeless (doubled_after TwiceNamed (global_names (bare_file file)) (var_names (map bare_var a.variables))) _ (doubled_after TwiceNamed (global_names file) (var_names a.variables)) _
      (ap₂ (doubled_after TwiceNamed) globals-bare (vars-bare a.variables) ∙ after-bare TwiceNamed (global_names file) (var_names a.variables))
      (joined placeless (doubled TwiceNamed (location_names (bare_automaton a))) (doubled TwiceNamed (map bare_name a.initial)) (doubled TwiceNamed (location_names a)) (doubled TwiceNamed a.initial)
      (doubled-bare TwiceNamed (location_names (bare_automaton a)) (location_names a) (locations-bare a))
      (doubled-bare TwiceNamed (map bare_name a.initial) a.initial refl))

  enabled-bare : (e : Element) → repeated_enabled (bare_element e) ≡ map placeless (repeated_enabled e)
  enabled-bare e = doubled-bare TwiceNamed (map bare_name e.enable) e.enable refl

  doubled_names-bare : doubled_names (bare_file file) ≡ map placeless (doubled_names file)
  doubled_names-bare =
      joined placeless (doubled TwiceNamed (global_names (bare_file file))) _ (doubled TwiceNamed (global_names file)) _
      (doubled-bare TwiceNamed (global_names (bare_file file)) (global_names file) globals-bare)
      (joined placeless (doubled TwiceNamed (map bare_name file.actions)) _ (doubled TwiceNamed file.actions) _
      (doubled-bare TwiceNamed (map bare_name file.actions) file.actions refl)
      (joined placeless (doubled TwiceNamed (automaton_names (bare_file file))) _ (doubled TwiceNamed (automaton_names file)) _
      (doubled-bare TwiceNamed (automaton_names (bare_file file)) (automaton_names file) automata-bare)
      (joined placeless (flat_map (doubled_in (global_names (bare_file file))) (map bare_automaton file.automata)) _ (flat_map (doubled_in (global_names file)) file.automata) _
      (gathered placeless bare_automaton (doubled_in (global_names (bare_file file))) (doubled_in (global_names file)) doubled_in-bare file.automata)
      (gathered placeless bare_element repeated_enabled repeated_enabled enabled-bare file.elements))))

-- ---- demands
abbrev bare_demand : Demand → Demand
bare_demand (fixed w e) = fixed w (bare e)
bare_demand (varying w e) = varying w (bare e)
bare_demand (assigned w) = assigned (bare_write w)
bare_demand (given w) = given (bare_write w)

type_of_kind-bare : (k : VarKind) → kind_type (bare_kind k) ≡ kind_type k
type_of_kind-bare boolean = refl
type_of_kind-bare integer = refl
type_of_kind-bare number = refl
type_of_kind-bare real_bounded = refl
type_of_kind-bare one_sided = refl
type_of_kind-bare (bounded low high) = refl

optional-bare : (f : Expression → Demand) → ((e : Expression) → f (bare e) ≡ bare_demand (f e)) → (o : Option Expression) → map f (if_some (option_map bare o)) ≡ map bare_demand (map f (if_some o))
optional-bare f h None = refl
optional-bare f h (Some e) = ap (λ d. d ∷ []) (h e)

bounds-bare : (k : VarKind) → bound_demands (bare_kind k) ≡ map bare_demand (bound_demands k)
bounds-bare boolean = refl
bounds-bare integer = refl
bounds-bare number = refl
bounds-bare real_bounded = refl
bounds-bare one_sided = refl
bounds-bare (bounded low high) = refl

const_demands-bare : (c : Const) → const_demands (bare_const c) ≡ map bare_demand (const_demands c)
const_demands-bare c = optional-bare (fixed (wanted_by c.ty)) (λ e. refl) c.value

var_demands-bare : (x : Var) → var_demands (bare_var x) ≡ map bare_demand (var_demands x)
var_demands-bare x =
    joined bare_demand (bound_demands (bare_kind x.kind)) (map (fixed (wanted_by (kind_type (bare_kind x.kind)))) (if_some (option_map bare x.start))) (bound_demands x.kind) (map (fixed (wanted_by (kind_type x.kind))) (if_some x.start))
    (bounds-bare x.kind)
    (ap (λ t. map (fixed (wanted_by t)) (if_some (option_map bare x.start))) (type_of_kind-bare x.kind) ∙ optional-bare (fixed (wanted_by (kind_type x.kind))) (λ e. refl) x.start)

location_demands-bare : (l : Location) → location_demands (bare_location l) ≡ map bare_demand (location_demands l)
location_demands-bare l = turned bare_demand bare_write given given (λ w. refl) l.values

destination_demands-bare : (d : Destination) → destination_demands (bare_destination d) ≡ map bare_demand (destination_demands d)
destination_demands-bare d =
    joined bare_demand (map (varying W.Number) (if_some (option_map bare d.weight))) (map assigned (map bare_write d.writes)) (map (varying W.Number) (if_some d.weight)) (map assigned d.writes)
    (optional-bare (varying W.Number) (λ e. refl) d.weight) (turned bare_demand bare_write assigned assigned (λ w. refl) d.writes)

edge_demands-bare : (e : Edge) → edge_demands (bare_edge e) ≡ map bare_demand (edge_demands e)
edge_demands-bare e =
    joined bare_demand (map (varying W.Bool) (if_some (option_map bare e.guard))) (flat_map destination_demands (map bare_destination e.destinations)) (map (varying W.Bool) (if_some e.guard)) (flat_map destination_demands e.destinations)
    (optional-bare (varying W.Bool) (λ e. refl) e.guard) (gathered bare_demand bare_destination destination_demands destination_demands destination_demands-bare e.destinations)

automaton_demands-bare : (a : Automaton) → automaton_demands (bare_automaton a) ≡ map bare_demand (automaton_demands a)
automaton_demands-bare a =
    joined bare_demand (flat_map var_demands (map bare_var a.variables)) _ (flat_map var_demands a.variables) _
    (gathered bare_demand bare_var var_demands var_demands var_demands-bare a.variables)
    (joined bare_demand (flat_map location_demands (map bare_location a.locations)) _ (flat_map location_demands a.locations) _
    (gathered bare_demand bare_location location_demands location_demands location_demands-bare a.locations)
    (gathered bare_demand bare_edge edge_demands edge_demands edge_demands-bare a.edges))

outer_demands-bare : (file : File) → outer_demands (bare_file file) ≡ map bare_demand (outer_demands file)
outer_demands-bare file =
    joined bare_demand (flat_map const_demands (map bare_const file.constants)) _ (flat_map const_demands file.constants) _
    (gathered bare_demand bare_const const_demands const_demands const_demands-bare file.constants)
    (joined bare_demand (flat_map var_demands (map bare_var file.variables)) _ (flat_map var_demands file.variables) _
    (gathered bare_demand bare_var var_demands var_demands var_demands-bare file.variables)
    (optional-bare (varying W.Bool) (λ e. refl) file.restrict))

-- what each demand gives
demanded : (g h : Demand → List Fault) → ((d : Demand) → g (bare_demand d) ≡ map placeless (h d)) → (us ds : List Demand) → us ≡ map bare_demand ds → flat_map g us ≡ map placeless (flat_map h ds)
demanded g h e us ds k = ap (flat_map g) k ∙ gathered placeless bare_demand g h e ds

-- ---- names that are not declared
used-bare : (d : Demand) → names_used (bare_demand d) ≡ map bare_name (names_used d)
used-bare (fixed w e) = names-bare e
used-bare (varying w e) = names-bare e
used-bare (assigned w) = ap (λ ns. bare_name w.target ∷ ns) (names-bare w.value)
used-bare (given w) = ap (λ ns. bare_name w.target ∷ ns) (names-bare w.value)

unknown_by-bare : (known : Name → Bool) (d : Demand) → unknown_by known (bare_demand d) ≡ map placeless (unknown_by known d)
unknown_by-bare known d = unknown-bare known (names_used (bare_demand d)) (names_used d) (used-bare d)

edge_locations-bare : (e : Edge) → edge_locations (bare_edge e) ≡ map bare_name (edge_locations e)
edge_locations-bare e = ap (λ ns. bare_name e.location ∷ ns) (turned bare_name bare_destination (λ d. d.location) (λ d. d.location) (λ d. refl) e.destinations)

locations_used-bare : (a : Automaton) → locations_used (bare_automaton a) ≡ map bare_name (locations_used a)
locations_used-bare a =
    joined bare_name (map bare_name a.initial) (flat_map edge_locations (map bare_edge a.edges)) a.initial (flat_map edge_locations a.edges) refl
    (gathered bare_name bare_edge edge_locations edge_locations edge_locations-bare a.edges)

actions_used-bare : (a : Automaton) → actions_used (bare_automaton a) ≡ map bare_name (actions_used a)
actions_used-bare a = gathered bare_name bare_edge (λ e. if_some e.action) (λ e. if_some e.action) (λ e. if_some-map bare_name e.action) a.edges

vector_actions-bare : (v : Vector) → vector_actions (bare_vector v) ≡ map bare_name (vector_actions v)
vector_actions-bare v =
    joined bare_name (flat_map if_some (map bare_part v.parts)) (if_some (option_map bare_name v.result)) (flat_map if_some v.parts) (if_some v.result)
    (gathered bare_name bare_part if_some if_some (λ p. if_some-map bare_name p) v.parts) (if_some-map bare_name v.result)

unknown_in-bare : (global actions : Name → Bool) (a : Automaton) → unknown_in global actions (bare_automaton a) ≡ map placeless (unknown_in global actions a)
unknown_in-bare global actions a =
    joined placeless (flat_map (unknown_by (λ x. global x || is_among (var_names (map bare_var a.variables)) x)) (automaton_demands (bare_automaton a))) _ (flat_map (unknown_by (λ x. global x || is_among (var_names a.variables) x)) (automaton_demands a)) _
    (ap (λ (own : Name → Bool). flat_map (unknown_by (λ x. global x || own x)) (automaton_demands (bare_automaton a))) (among-bare (var_names (map bare_var a.variables)) (var_names a.variables) (vars-bare a.variables))
    ∙ demanded (unknown_by (λ x. global x || is_among (var_names a.variables) x)) (unknown_by (λ x. global x || is_among (var_names a.variables) x))
    (unknown_by-bare (λ x. global x || is_among (var_names a.variables) x)) (automaton_demands (bare_automaton a)) (automaton_demands a) (automaton_demands-bare a))
    (joined placeless (flat_map (unless_known (is_among (location_names (bare_automaton a)))) (locations_used (bare_automaton a))) _ (flat_map (unless_known (is_among (location_names a))) (locations_used a)) _
    (ap (λ k. flat_map (unless_known k) (locations_used (bare_automaton a))) (among-bare (location_names (bare_automaton a)) (location_names a) (locations-bare a))
    ∙ unknown-bare (is_among (location_names a)) (locations_used (bare_automaton a)) (locations_used a) (locations_used-bare a))
    (unknown-bare actions (actions_used (bare_automaton a)) (actions_used a) (actions_used-bare a)))

module _ (file : File) where
  known-bare : is_among (global_names (bare_file file)) ≡ is_among (global_names file)
  known-bare = among-bare (global_names (bare_file file)) (global_names file) (globals-bare file)

  actions-bare : is_among (map bare_name file.actions) ≡ is_among file.actions
  actions-bare = among-bare (map bare_name file.actions) file.actions refl

  unknown_names-bare : unknown_names (bare_file file) ≡ map placeless (unknown_names file)
  unknown_names-bare =
      joined placeless (flat_map (unknown_by (is_among (global_names (bare_file file)))) (outer_demands (bare_file file))) _ (flat_map (unknown_by (is_among (global_names file))) (outer_demands file)) _
      (ap (λ k. flat_map (unknown_by k) (outer_demands (bare_file file))) known-bare
      ∙ demanded (unknown_by (is_among (global_names file))) (unknown_by (is_among (global_names file))) (unknown_by-bare (is_among (global_names file))) (outer_demands (bare_file file)) (outer_demands file) (outer_demands-bare file))
      (joined placeless (flat_map (unknown_in (is_among (global_names (bare_file file))) (is_among (map bare_name file.actions))) (map bare_automaton file.automata)) _ (flat_map (unknown_in (is_among (global_names file)) (is_among file.actions)) file.automata) _
      (ap₂ (λ g k. flat_map (unknown_in g k) (map bare_automaton file.automata)) known-bare actions-bare
      ∙ gathered placeless bare_automaton (unknown_in (is_among (global_names file)) (is_among file.actions)) (unknown_in (is_among (global_names file)) (is_among file.actions))
      (unknown_in-bare (is_among (global_names file)) (is_among file.actions)) file.automata)
      (joined placeless (flat_map (unless_known (is_among (automaton_names (bare_file file)))) (element_names (bare_file file))) _ (flat_map (unless_known (is_among (automaton_names file))) (element_names file)) _
      (ap (λ k. flat_map (unless_known k) (element_names (bare_file file))) (among-bare (automaton_names (bare_file file)) (automaton_names file) (automata-bare file))
      ∙ unknown-bare (is_among (automaton_names file)) (element_names (bare_file file)) (element_names file) (element_names-bare file))
      (joined placeless (flat_map (unless_known (is_among (map bare_name file.actions))) (flat_map vector_actions (map bare_vector file.vectors))) _ (flat_map (unless_known (is_among file.actions)) (flat_map vector_actions file.vectors)) _
      (ap (λ k. flat_map (unless_known k) (flat_map vector_actions (map bare_vector file.vectors))) actions-bare
      ∙ unknown-bare (is_among file.actions) (flat_map vector_actions (map bare_vector file.vectors)) (flat_map vector_actions file.vectors)
      (gathered bare_name bare_vector vector_actions vector_actions vector_actions-bare file.vectors))
      (ap (λ k. flat_map (unknown_enabled k) (map bare_element file.elements)) actions-bare
      ∙ gathered placeless bare_element (unknown_enabled (is_among file.actions)) (unknown_enabled (is_among file.actions)) (λ e. unknown-bare (is_among file.actions) (map bare_name e.enable) e.enable refl) file.elements))))

-- ---- constants that depend on themselves
some_names : (o : Option Expression) → map (λ n. n.name) (flat_map names_of (if_some (option_map bare o))) ≡ map (λ n. n.name) (flat_map names_of (if_some o))
some_names None = refl
some_names (Some e) =
    ap (map (λ n. n.name)) (gathered bare_name bare names_of names_of names-bare (e ∷ []))
    ∙ mapped bare_name (λ n. n.name) (λ n. n.name) (λ n. refl) (flat_map names_of (e ∷ []))

uses-bare : (c : Const) → uses (bare_const c) ≡ uses c
uses-bare c = some_names c.value

uses_of-bare : (cs : List Const) (x : Name) → uses_of (map bare_const cs) x ≡ uses_of cs x
uses_of-bare cs x =
    ap (flat_map uses) (kept_mapped bare_const (λ c. is_called x c.name) (λ c. is_called x c.name) (λ c. refl) cs)
    ∙ walked bare_const uses uses uses-bare (filter (λ c. is_called x c.name) cs)

leads-bare : (cs : List Const) (n : ℕ) (x y : Name) → leads_to (map bare_const cs) n x y ≡ leads_to cs n x y
leads-bare cs zero x y = refl
leads-bare cs (suc n) x y =
    ap (λ b. bytes_eq x y || b)
    (ap (list_any (λ z. leads_to (map bare_const cs) n z y)) (uses_of-bare cs x)
    ∙ any_agree (λ z. leads_to (map bare_const cs) n z y) (λ z. leads_to cs n z y) (λ z. leads-bare cs n z y) (uses_of cs x))

circular-bare : (cs : List Const) (c : Const) → circular (map bare_const cs) (bare_const c) ≡ map placeless (circular cs c)
circular-bare cs c =
    tested (is_circular (map bare_const cs) (bare_const c)) (is_circular cs c) c.name.at Cycle
    (ap₂ (λ n us. list_any (λ x. leads_to (map bare_const cs) n x c.name.name) us) (length-map cs bare_const) (uses-bare c)
    ∙ any_agree (λ x. leads_to (map bare_const cs) (length cs) x c.name.name) (λ x. leads_to cs (length cs) x c.name.name) (λ x. leads-bare cs (length cs) x c.name.name) (uses c))

circles-bare : (file : File) → circles (bare_file file) ≡ map placeless (circles file)
circles-bare file = gathered placeless bare_const (circular (map bare_const file.constants)) (circular file.constants) (circular-bare file.constants) file.constants

-- ---- the composition
is_some-bare : (p : Option Named) → is_some (bare_part p) ≡ is_some p
is_some-bare None = refl
is_some-bare (Some n) = refl

bad_vector-bare : (n : ℕ) (v : Vector) → bad_vector n (bare_vector v) ≡ map placeless (bad_vector n v)
bad_vector-bare n v =
    tested (not (nat_eq (length (map bare_part v.parts)) n) || not (list_any is_some (map bare_part v.parts))) (not (nat_eq (length v.parts) n) || not (list_any is_some v.parts)) v.at BadVector
    (ap₂ (λ k b. not (nat_eq k n) || not b) (length-map v.parts bare_part) (any_mapped bare_part is_some is_some is_some-bare v.parts))

composition-bare : (file : File) → composition_faults (bare_file file) ≡ map placeless (composition_faults file)
composition-bare file =
    let count = ap length (element_names-bare file) ∙ length-map (element_names file) bare_name in
    joined placeless (doubled RepeatedAutomaton (element_names (bare_file file))) _ (doubled RepeatedAutomaton (element_names file)) _
    (doubled-bare RepeatedAutomaton (element_names (bare_file file)) (element_names file) (element_names-bare file))
    (joined placeless (fault_if (nat_eq (length (element_names (bare_file file))) 0) 0 Nothing) _ (fault_if (nat_eq (length (element_names file)) 0) file.elements_at Nothing) _
    (tested (nat_eq (length (element_names (bare_file file))) 0) (nat_eq (length (element_names file)) 0) file.elements_at Nothing (ap (λ n. nat_eq n 0) count))
    (ap (λ n. flat_map (bad_vector n) (map bare_vector file.vectors)) count
    ∙ gathered placeless bare_vector (bad_vector (length (element_names file))) (bad_vector (length (element_names file))) (bad_vector-bare (length (element_names file))) file.vectors))

name_faults-bare : (file : File) → name_faults (bare_file file) ≡ map placeless (name_faults file)
name_faults-bare file =
    joined placeless (doubled_names (bare_file file)) _ (doubled_names file) _ (doubled_names-bare file)
    (joined placeless (unknown_names (bare_file file)) _ (unknown_names file) _ (unknown_names-bare file)
    (joined placeless (circles (bare_file file)) _ (circles file) _ (circles-bare file) (composition-bare file)))

-- ---- what names stand for
pub var_thing-bare : (x : Var) → var_thing (bare_var x) ≡ var_thing x
var_thing-bare x = ap (λ t. if x.transient then Transient t else Variable t) (type_of_kind-bare x.kind)

thing_found : (xs : List Var) (x : Name) → option_map var_thing (var_called (map bare_var xs) x) ≡ option_map var_thing (var_called xs x)
thing_found xs x =
    ap (option_map var_thing) (found_mapped bare_var (λ v. is_called x v.name) (λ v. is_called x v.name) (λ v. refl) xs) ∙ of_found (var_called xs x)
  where
    of_found : (o : Option Var) → option_map var_thing (option_map bare_var o) ≡ option_map var_thing o
    of_found None = refl
    of_found (Some v) = ap Some (var_thing-bare v)

const_found : (cs : List Const) (x : Name) → option_map const_thing (find (λ c. is_called x c.name) (map bare_const cs)) ≡ option_map const_thing (find (λ c. is_called x c.name) cs)
const_found cs x =
    ap (option_map const_thing) (found_mapped bare_const (λ c. is_called x c.name) (λ c. is_called x c.name) (λ c. refl) cs) ∙ of_found (find (λ c. is_called x c.name) cs)
  where
    of_found : (o : Option Const) → option_map const_thing (option_map bare_const o) ≡ option_map const_thing o
    of_found None = refl
    of_found (Some c) = refl

things-bare : (file : File) → global_thing (bare_file file) ≡ global_thing file
things-bare file = fun_ext (λ x. ap₂ or_else (const_found file.constants x) (thing_found file.variables x))

beside-bare : (global : Name → Option Thing) (own : List Var) → beside global (map bare_var own) ≡ beside global own
beside-bare global own = fun_ext (λ x. ap (or_else (global x)) (thing_found own x))

-- ---- types
kind_fault-bare : (t : Bool) (k : VarKind) → kind_fault t (bare_kind k) ≡ kind_fault t k
kind_fault-bare true boolean = refl
kind_fault-bare true integer = refl
kind_fault-bare true number = refl
kind_fault-bare true real_bounded = refl
kind_fault-bare true one_sided = refl
kind_fault-bare true (bounded low high) = refl
kind_fault-bare false boolean = refl
kind_fault-bare false integer = refl
kind_fault-bare false number = refl
kind_fault-bare false real_bounded = refl
kind_fault-bare false one_sided = refl
kind_fault-bare false (bounded low high) = refl

var_faults-bare : (x : Var) → var_faults (bare_var x) ≡ map placeless (var_faults x)
var_faults-bare x = ap (λ o. map (fault 0) (if_some o)) (kind_fault-bare x.transient x.kind) ∙ of_reason (kind_fault x.transient x.kind)
  where
    of_reason : (o : Option Reason) → map (fault 0) (if_some o) ≡ map placeless (map (fault x.kind_at) (if_some o))
    of_reason None = refl
    of_reason (Some r) = refl

module _ (ty : Types) where
  some_type-bare : (e : Expression) → is_some (type_in jani_meaning ty (bare e)) ≡ is_some (type_in jani_meaning ty e)
  some_type-bare e = ap is_some (type-bare jani_meaning e ty)

  misfits-bare : (e : Expression) → misfits jani_meaning ty (bare e) ≡ noughts (misfits jani_meaning ty e)
  misfits-bare (Truth at b) = refl
  misfits-bare (Number at d) = refl
  misfits-bare (At at x) = misfit-bare at true true (ty x) (ty x) refl refl
  misfits-bare (One at o a) =
      joined (λ n. 0) (misfits jani_meaning ty (bare a)) _ (misfits jani_meaning ty a) _ (misfits-bare a)
      (misfit-bare at _ _ _ _ (some_type-bare a) (type-bare jani_meaning (One at o a) ty))
  misfits-bare (Two at o a b) =
      joined (λ n. 0) (misfits jani_meaning ty (bare a)) _ (misfits jani_meaning ty a) _ (misfits-bare a)
      (joined (λ n. 0) (misfits jani_meaning ty (bare b)) _ (misfits jani_meaning ty b) _ (misfits-bare b)
      (misfit-bare at _ _ _ _ (ap₂ (λ x y. x && y) (some_type-bare a) (some_type-bare b)) (type-bare jani_meaning (Two at o a b) ty)))
  misfits-bare (Three at o a b c) =
      joined (λ n. 0) (misfits jani_meaning ty (bare a)) _ (misfits jani_meaning ty a) _ (misfits-bare a)
      (joined (λ n. 0) (misfits jani_meaning ty (bare b)) _ (misfits jani_meaning ty b) _ (misfits-bare b)
      (joined (λ n. 0) (misfits jani_meaning ty (bare c)) _ (misfits jani_meaning ty c) _ (misfits-bare c)
      (misfit-bare at _ _ _ _ (ap₂ (λ x y. x && y) (some_type-bare a) (ap₂ (λ x y. x && y) (some_type-bare b) (some_type-bare c))) (type-bare jani_meaning (Three at o a b c) ty))))

  -- a fault at the offset of an expression
  here-bare : (b c : Bool) (r : Reason) (e : Expression) → b ≡ c → fault_if b (offset_of (bare e)) r ≡ map placeless (fault_if c (offset_of e) r)
  here-bare b c r e h = ap (λ n. fault_if b n r) (offset-bare e) ∙ tested b c (offset_of e) r h

  type_faults_of-bare : (w : Wanted) (e : Expression) → type_faults_of ty w (bare e) ≡ map placeless (type_faults_of ty w e)
  type_faults_of-bare w e =
      joined placeless (map (λ at. fault at WrongType) (misfits jani_meaning ty (bare e))) _ (map (λ at. fault at WrongType) (misfits jani_meaning ty e)) _
      (ap (map (λ at. fault at WrongType)) (misfits-bare e) ∙ turned placeless (λ n. 0) (λ at. fault at WrongType) (λ at. fault at WrongType) (λ n. refl) (misfits jani_meaning ty e))
      (here-bare _ _ WrongType e (ap (is_unwanted w) (type-bare jani_meaning e ty)))

demand_faults-bare : (things : Name → Option Thing) (d : Demand) → demand_faults things (bare_demand d) ≡ map placeless (demand_faults things d)
demand_faults-bare things (fixed w e) =
    joined placeless (type_faults_of (types_by things) w (bare e)) _ (type_faults_of (types_by things) w e) _
    (type_faults_of-bare (types_by things) w e) (here-bare (types_by things) _ _ NotConstant e (some_name-bare (λ x. is_variable (things x)) e))
demand_faults-bare things (varying w e) = type_faults_of-bare (types_by things) w e
demand_faults-bare things (assigned w) =
    joined placeless (fault_if (is_constant (things w.target.name)) 0 ForeignWrite) _ (fault_if (is_constant (things w.target.name)) w.target.at ForeignWrite) _
    (at_nought (is_constant (things w.target.name)) w.target.at ForeignWrite) (type_faults_of-bare (types_by things) (wanted_at (things w.target.name)) w.value)
demand_faults-bare things (given w) =
    joined placeless (fault_if (not (is_transient (things w.target.name))) 0 ForeignWrite) _ (fault_if (not (is_transient (things w.target.name))) w.target.at ForeignWrite) _
    (at_nought (not (is_transient (things w.target.name))) w.target.at ForeignWrite) (type_faults_of-bare (types_by things) (wanted_at (things w.target.name)) w.value)

-- ---- what is assigned twice
targets-bare : (ws : List Write) → targets (map bare_write ws) ≡ map bare_name (targets ws)
targets-bare ws = turned bare_name bare_write (λ w. w.target) (λ w. w.target) (λ w. refl) ws

repeated-bare : (ws : List Write) → repeated (map bare_write ws) ≡ map placeless (repeated ws)
repeated-bare ws = doubled-bare WrittenTwice (targets (map bare_write ws)) (targets ws) (targets-bare ws)

edge_repeats-bare : (e : Edge) → edge_repeats (bare_edge e) ≡ map placeless (edge_repeats e)
edge_repeats-bare e = gathered placeless bare_destination (λ d. repeated d.writes) (λ d. repeated d.writes) (λ d. repeated-bare d.writes) e.destinations

repeated_writes-bare : (a : Automaton) → repeated_writes (bare_automaton a) ≡ map placeless (repeated_writes a)
repeated_writes-bare a =
    joined placeless (flat_map (λ l. repeated l.values) (map bare_location a.locations)) _ (flat_map (λ l. repeated l.values) a.locations) _
    (gathered placeless bare_location (λ l. repeated l.values) (λ l. repeated l.values) (λ l. repeated-bare l.values) a.locations)
    (gathered placeless bare_edge edge_repeats edge_repeats edge_repeats-bare a.edges)

automaton_faults-bare : (global : Name → Option Thing) (a : Automaton) → automaton_faults global (bare_automaton a) ≡ map placeless (automaton_faults global a)
automaton_faults-bare global a =
    joined placeless (flat_map var_faults (map bare_var a.variables)) _ (flat_map var_faults a.variables) _
    (gathered placeless bare_var var_faults var_faults var_faults-bare a.variables)
    (joined placeless (flat_map (demand_faults (beside global (map bare_var a.variables))) (automaton_demands (bare_automaton a))) _ (flat_map (demand_faults (beside global a.variables)) (automaton_demands a)) _
    (ap (λ t. flat_map (demand_faults t) (automaton_demands (bare_automaton a))) (beside-bare global a.variables)
    ∙ demanded (demand_faults (beside global a.variables)) (demand_faults (beside global a.variables)) (demand_faults-bare (beside global a.variables)) (automaton_demands (bare_automaton a)) (automaton_demands a) (automaton_demands-bare a))
    (repeated_writes-bare a))

-- ---- participants of vectors
has_action-bare : (x : Name) (e : Edge) → has_action x (bare_edge e) ≡ has_action x e
has_action-bare x e = of_action e.action
  where
    of_action : (o : Option Named) → list_any (is_called x) (if_some (option_map bare_name o)) ≡ list_any (is_called x) (if_some o)
    of_action None = refl
    of_action (Some n) = refl

edge_writes-bare : (e : Edge) → edge_writes (bare_edge e) ≡ map bare_write (edge_writes e)
edge_writes-bare e = gathered bare_write bare_destination (λ d. d.writes) (λ d. d.writes) (λ d. refl) e.destinations

module _ {X : Type 0} (f : Automaton → Name → X) (none : X) (file : File) (h : (a : Automaton) (x : Name) → f (bare_automaton a) x ≡ f a x) where
  taken-bare : (e : Named) (p : Option Named) → taken_part f none (bare_file file) (bare_name e) (bare_part p) ≡ taken_part f none file e p
  taken-bare e None = refl
  taken-bare e (Some n) =
      ap (with_automaton (λ a. f a n.name) none) (found_mapped bare_automaton (λ a. is_called e.name a.name) (λ a. is_called e.name a.name) (λ a. refl) file.automata)
      ∙ of_found (automaton_called file e.name)
    where
      of_found : (o : Option Automaton) → with_automaton (λ a. f a n.name) none (option_map bare_automaton o) ≡ with_automaton (λ a. f a n.name) none o
      of_found None = refl
      of_found (Some a) = h a n.name

  participants-bare : (es : List Named) (ps : List (Option Named)) → participants f none (bare_file file) (map bare_name es) (map bare_part ps) ≡ participants f none file es ps
  participants-bare [] ps = refl
  participants-bare (e ∷ es) [] = refl
  participants-bare (e ∷ es) (p ∷ ps) = ap₂ (λ x xs. x ∷ xs) (taken-bare e p) (participants-bare es ps)

assigned_by-bare : (p : Name → Bool) (e : Edge) → assigned_by p (bare_edge e) ≡ assigned_by p e
assigned_by-bare p e =
    ap (λ ws. filter p (map (λ w. w.target.name) ws)) (edge_writes-bare e) ∙ ap (filter p) (mapped bare_write (λ w. w.target.name) (λ w. w.target.name) (λ w. refl) (edge_writes e))

shared_by-bare : (global : Name → Option Thing) (a : Automaton) (x : Name) → shared_by global (bare_automaton a) x ≡ shared_by global a x
shared_by-bare global a x =
    walked bare_edge (λ e. edge_shared (λ y. is_lasting (global y)) e x) (λ e. edge_shared (λ y. is_lasting (global y)) e x)
    (λ e. ap₂ (λ b xs. if b then xs else []) (has_action-bare x e) (assigned_by-bare (λ y. is_lasting (global y)) e)) a.edges

clashing-bare : (file : File) (v : Vector) → clashing_writes (bare_file file) (bare_vector v) ≡ map placeless (clashing_writes file v)
clashing-bare file v =
    tested _ _ v.at WrittenTwice
    (ap meet
    (ap₂ (λ t es. participants (shared_by t) [] (bare_file file) es (map bare_part v.parts)) (things-bare file) (element_names-bare file)
    ∙ participants-bare (shared_by (global_thing file)) [] file (shared_by-bare (global_thing file)) (element_names file) v.parts))

type_faults-bare : (file : File) → type_faults (bare_file file) ≡ map placeless (type_faults file)
type_faults-bare file =
    joined placeless (flat_map var_faults (map bare_var file.variables)) _ (flat_map var_faults file.variables) _
    (gathered placeless bare_var var_faults var_faults var_faults-bare file.variables)
    (joined placeless (flat_map (demand_faults (global_thing (bare_file file))) (outer_demands (bare_file file))) _ (flat_map (demand_faults (global_thing file)) (outer_demands file)) _
    (ap (λ t. flat_map (demand_faults t) (outer_demands (bare_file file))) (things-bare file)
    ∙ demanded (demand_faults (global_thing file)) (demand_faults (global_thing file)) (demand_faults-bare (global_thing file)) (outer_demands (bare_file file)) (outer_demands file) (outer_demands-bare file))
    (joined placeless (flat_map (automaton_faults (global_thing (bare_file file))) (map bare_automaton file.automata)) _ (flat_map (automaton_faults (global_thing file)) file.automata) _
    (ap (λ t. flat_map (automaton_faults t) (map bare_automaton file.automata)) (things-bare file)
    ∙ gathered placeless bare_automaton (automaton_faults (global_thing file)) (automaton_faults (global_thing file)) (automaton_faults-bare (global_thing file)) file.automata)
    (gathered placeless bare_vector (clashing_writes (bare_file file)) (clashing_writes file) (clashing-bare file) file.vectors)))

-- ---- the profile
reads-bare : (things : Name → Option Thing) (e : Expression) → reads things (bare e) ≡ map placeless (reads things e)
reads-bare things e =
    ap (flat_map (read_fault things)) (names-bare e)
    ∙ gathered placeless bare_name (read_fault things) (read_fault things) (λ n. at_nought (is_transient (things n.name)) n.at TransientRead) (names_of e)

demand_profile-bare : (things : Name → Option Thing) (d : Demand) → demand_profile things (bare_demand d) ≡ map placeless (demand_profile things d)
demand_profile-bare things (fixed w e) = reads-bare things e
demand_profile-bare things (varying w e) = reads-bare things e
demand_profile-bare things (assigned w) =
    joined placeless (fault_if (is_label (things w.target.name)) 0 LabelOnEdge) _ (fault_if (is_label (things w.target.name)) w.target.at LabelOnEdge) _
    (at_nought (is_label (things w.target.name)) w.target.at LabelOnEdge) (reads-bare things w.value)
demand_profile-bare things (given w) = reads-bare things w.value

is_first-bare : (t : Ty) (e : Expression) → is_first t (bare e) ≡ is_first t e
is_first-bare T.Bool (Truth at b) = refl
is_first-bare T.Bool (Number at d) = refl
is_first-bare T.Bool (At at x) = refl
is_first-bare T.Bool (One at o a) = refl
is_first-bare T.Bool (Two at o a b) = refl
is_first-bare T.Bool (Three at o a b c) = refl
is_first-bare T.Int (Truth at b) = refl
is_first-bare T.Int (Number at d) = refl
is_first-bare T.Int (At at x) = refl
is_first-bare T.Int (One at o a) = refl
is_first-bare T.Int (Two at o a b) = refl
is_first-bare T.Int (Three at o a b c) = refl
is_first-bare T.Real (Truth at b) = refl
is_first-bare T.Real (Number at d) = refl
is_first-bare T.Real (At at x) = refl
is_first-bare T.Real (One at o a) = refl
is_first-bare T.Real (Two at o a b) = refl
is_first-bare T.Real (Three at o a b c) = refl

first_fault-bare : (t : Ty) (e : Expression) → first_fault t (bare e) ≡ map placeless (first_fault t e)
first_fault-bare t e =
    ap (λ n. fault_if (not (is_first t (bare e))) n TransientInitial) (offset-bare e)
    ∙ tested (not (is_first t (bare e))) (not (is_first t e)) (offset_of e) TransientInitial (ap not (is_first-bare t e))

first_faults-bare : (t : Ty) (o : Option Expression) → flat_map (first_fault t) (if_some (option_map bare o)) ≡ map placeless (flat_map (first_fault t) (if_some o))
first_faults-bare t None = refl
first_faults-bare t (Some e) = gathered placeless bare (first_fault t) (first_fault t) (first_fault-bare t) (e ∷ [])

start_faults-bare : (x : Var) → start_faults (bare_var x) ≡ map placeless (start_faults x)
start_faults-bare x =
    ap (λ t. if x.transient then flat_map (first_fault t) (if_some (option_map bare x.start)) else []) (type_of_kind-bare x.kind) ∙ by_test x.transient
  where
    by_test : (b : Bool) → (if b then flat_map (first_fault (kind_type x.kind)) (if_some (option_map bare x.start)) else []) ≡ map placeless (if b then flat_map (first_fault (kind_type x.kind)) (if_some x.start) else [])
    by_test true = first_faults-bare (kind_type x.kind) x.start
    by_test false = refl

given_by-bare : (a : Automaton) → given_by (bare_automaton a) ≡ map bare_name (given_by a)
given_by-bare a = gathered bare_name bare_location (λ l. targets l.values) (λ l. targets l.values) (λ l. targets-bare l.values) a.locations

given_after-bare : (global : Name → Option Thing) (earlier : Name → Bool) (as_ : List Automaton) → given_after global earlier (map bare_automaton as_) ≡ map placeless (given_after global earlier as_)
given_after-bare global earlier [] = refl
given_after-bare global earlier (a ∷ rest) =
    joined placeless (flat_map (given_again global earlier) (given_by (bare_automaton a))) _ (flat_map (given_again global earlier) (given_by a)) _
    (ap (flat_map (given_again global earlier)) (given_by-bare a)
    ∙ gathered placeless bare_name (given_again global earlier) (given_again global earlier) (λ n. at_nought (is_transient (global n.name) && earlier n.name) n.at TransientTwoAutomata) (given_by a))
    (ap (λ (k : Name → Bool). given_after global (λ x. earlier x || k x) (map bare_automaton rest)) (among-bare (given_by (bare_automaton a)) (given_by a) (given_by-bare a))
    ∙ given_after-bare global (λ x. earlier x || is_among (given_by a) x) rest)

-- ---- the destinations of an edge
same_tree-bare : (a b : Expression) → same_tree (bare a) (bare b) ≡ same_tree a b
same_tree-bare (Truth at b) (Truth from c) = refl
same_tree-bare (Truth at b) (Number from c) = refl
same_tree-bare (Truth at b) (At from c) = refl
same_tree-bare (Truth at b) (One from p d) = refl
same_tree-bare (Truth at b) (Two from p d e) = refl
same_tree-bare (Truth at b) (Three from p d e f) = refl
same_tree-bare (Number at b) (Truth from c) = refl
same_tree-bare (Number at b) (Number from c) = refl
same_tree-bare (Number at b) (At from c) = refl
same_tree-bare (Number at b) (One from p d) = refl
same_tree-bare (Number at b) (Two from p d e) = refl
same_tree-bare (Number at b) (Three from p d e f) = refl
same_tree-bare (At at b) (Truth from c) = refl
same_tree-bare (At at b) (Number from c) = refl
same_tree-bare (At at b) (At from c) = refl
same_tree-bare (At at b) (One from p d) = refl
same_tree-bare (At at b) (Two from p d e) = refl
same_tree-bare (At at b) (Three from p d e f) = refl
same_tree-bare (One at o a) (Truth from c) = refl
same_tree-bare (One at o a) (Number from c) = refl
same_tree-bare (One at o a) (At from c) = refl
same_tree-bare (One at o a) (One from p d) = ap (λ x. bytes_eq (op_text o) (op_text p) && x) (same_tree-bare a d)
same_tree-bare (One at o a) (Two from p d e) = refl
same_tree-bare (One at o a) (Three from p d e f) = refl
same_tree-bare (Two at o a b) (Truth from c) = refl
same_tree-bare (Two at o a b) (Number from c) = refl
same_tree-bare (Two at o a b) (At from c) = refl
same_tree-bare (Two at o a b) (One from p d) = refl
same_tree-bare (Two at o a b) (Two from p d e) = ap₂ (λ x y. bytes_eq (op_text o) (op_text p) && (x && y)) (same_tree-bare a d) (same_tree-bare b e)
same_tree-bare (Two at o a b) (Three from p d e f) = refl
same_tree-bare (Three at o a b c) (Truth from d) = refl
same_tree-bare (Three at o a b c) (Number from d) = refl
same_tree-bare (Three at o a b c) (At from d) = refl
same_tree-bare (Three at o a b c) (One from p d) = refl
same_tree-bare (Three at o a b c) (Two from p d e) = refl
same_tree-bare (Three at o a b c) (Three from p d e f) =
    ap₂ (λ x r. bytes_eq (op_text o) (op_text p) && (x && r)) (same_tree-bare a d) (ap₂ (λ y z. y && z) (same_tree-bare b e) (same_tree-bare c f))

value_for-bare : (ws : List Write) (x : Name) → value_for (map bare_write ws) x ≡ option_map bare (value_for ws x)
value_for-bare ws x =
    ap (option_map (λ w. w.value)) (found_mapped bare_write (λ w. is_called x w.target) (λ w. is_called x w.target) (λ w. refl) ws)
    ∙ of_found (find (λ w. is_called x w.target) ws)
  where
    of_found : (o : Option Write) → option_map (λ w. w.value) (option_map bare_write o) ≡ option_map bare (option_map (λ w. w.value) o)
    of_found None = refl
    of_found (Some w) = refl

same_given : (e : Expression) (o : Option Expression) → list_any (same_tree (bare e)) (if_some (option_map bare o)) ≡ list_any (same_tree e) (if_some o)
same_given e None = refl
same_given e (Some f) = ap (λ b. b || false) (same_tree-bare e f)

lacks-bare : (ws : List Write) (w : Write) → lacks (value_for (map bare_write ws)) (bare_write w) ≡ lacks (value_for ws) w
lacks-bare ws w =
    ap (λ o. not (list_any (same_tree (bare w.value)) (if_some o))) (value_for-bare ws w.target.name) ∙ ap not (same_given w.value (value_for ws w.target.name))

rewards_by-bare : (things : Name → Option Thing) (ws : List Write) → rewards_by things (map bare_write ws) ≡ map bare_write (rewards_by things ws)
rewards_by-bare things ws = kept_mapped bare_write (λ w. is_reward (things w.target.name)) (λ w. is_reward (things w.target.name)) (λ w. refl) ws

lacking-bare : (things : Name → Option Thing) (us ws : List Write) →
    list_any (lacks (value_for (map bare_write us))) (rewards_by things (map bare_write ws)) ≡ list_any (lacks (value_for us)) (rewards_by things ws)
lacking-bare things us ws =
    ap (list_any (lacks (value_for (map bare_write us)))) (rewards_by-bare things ws)
    ∙ any_mapped bare_write (lacks (value_for (map bare_write us))) (lacks (value_for us)) (lacks-bare us) (rewards_by things ws)

differ-bare : (things : Name → Option Thing) (d e : Destination) → differ things (bare_destination d) (bare_destination e) ≡ differ things d e
differ-bare things d e = ap₂ (λ x y. x || y) (lacking-bare things e.writes d.writes) (lacking-bare things d.writes e.writes)

some_differ-bare : (things : Name → Option Thing) (ds : List Destination) → some_differ things (map bare_destination ds) ≡ some_differ things ds
some_differ-bare things [] = refl
some_differ-bare things (d ∷ ds) =
    ap₂ (λ x y. x || y) (any_mapped bare_destination (differ things (bare_destination d)) (differ things d) (differ-bare things d) ds) (some_differ-bare things ds)

branch_rewards-bare : (things : Name → Option Thing) (e : Edge) → branch_rewards things (bare_edge e) ≡ map placeless (branch_rewards things e)
branch_rewards-bare things e = tested _ _ e.at BranchReward (some_differ-bare things e.destinations)

automaton_profile-bare : (global : Name → Option Thing) (a : Automaton) → automaton_profile global (bare_automaton a) ≡ map placeless (automaton_profile global a)
automaton_profile-bare global a =
    joined placeless (flat_map start_faults (map bare_var a.variables)) _ (flat_map start_faults a.variables) _
    (gathered placeless bare_var start_faults start_faults start_faults-bare a.variables)
    (joined placeless (flat_map (demand_profile (beside global (map bare_var a.variables))) (automaton_demands (bare_automaton a))) _ (flat_map (demand_profile (beside global a.variables)) (automaton_demands a)) _
    (ap (λ t. flat_map (demand_profile t) (automaton_demands (bare_automaton a))) (beside-bare global a.variables)
    ∙ demanded (demand_profile (beside global a.variables)) (demand_profile (beside global a.variables)) (demand_profile-bare (beside global a.variables)) (automaton_demands (bare_automaton a)) (automaton_demands a) (automaton_demands-bare a))
    (ap (λ t. flat_map (branch_rewards t) (map bare_edge a.edges)) (beside-bare global a.variables)
    ∙ gathered placeless bare_edge (branch_rewards (beside global a.variables)) (branch_rewards (beside global a.variables)) (branch_rewards-bare (beside global a.variables)) a.edges))

assigns_reward-bare : (things : Name → Option Thing) (e : Edge) → assigns_reward things (bare_edge e) ≡ assigns_reward things e
assigns_reward-bare things e =
    ap (list_any (λ w. is_reward (things w.target.name))) (edge_writes-bare e)
    ∙ any_mapped bare_write (λ w. is_reward (things w.target.name)) (λ w. is_reward (things w.target.name)) (λ w. refl) (edge_writes e)

rewards_with-bare : (global : Name → Option Thing) (a : Automaton) (x : Name) → rewards_with global (bare_automaton a) x ≡ rewards_with global a x
rewards_with-bare global a x =
    any_mapped bare_edge (λ e. has_action x e && assigns_reward (beside global (map bare_var a.variables)) e) (λ e. has_action x e && assigns_reward (beside global a.variables) e)
    (λ e. ap₂ (λ p q. p && q) (has_action-bare x e)
    (assigns_reward-bare (beside global (map bare_var a.variables)) e ∙ ap (λ t. assigns_reward t e) (beside-bare global a.variables))) a.edges

two_writers-bare : (file : File) (v : Vector) → two_writers (bare_file file) (bare_vector v) ≡ map placeless (two_writers file v)
two_writers-bare file v =
    tested _ _ v.at TwoRewardWriters
    (ap two_hold
    (ap₂ (λ t es. participants (rewards_with t) false (bare_file file) es (map bare_part v.parts)) (things-bare file) (element_names-bare file)
    ∙ participants-bare (rewards_with (global_thing file)) false file (rewards_with-bare (global_thing file)) (element_names file) v.parts))

profile_faults-bare : (file : File) → profile_faults (bare_file file) ≡ map placeless (profile_faults file)
profile_faults-bare file =
    joined placeless (flat_map start_faults (map bare_var file.variables)) _ (flat_map start_faults file.variables) _
    (gathered placeless bare_var start_faults start_faults start_faults-bare file.variables)
    (joined placeless (flat_map (demand_profile (global_thing (bare_file file))) (outer_demands (bare_file file))) _ (flat_map (demand_profile (global_thing file)) (outer_demands file)) _
    (ap (λ t. flat_map (demand_profile t) (outer_demands (bare_file file))) (things-bare file)
    ∙ demanded (demand_profile (global_thing file)) (demand_profile (global_thing file)) (demand_profile-bare (global_thing file)) (outer_demands (bare_file file)) (outer_demands file) (outer_demands-bare file))
    (joined placeless (flat_map (automaton_profile (global_thing (bare_file file))) (map bare_automaton file.automata)) _ (flat_map (automaton_profile (global_thing file)) file.automata) _
    (ap (λ t. flat_map (automaton_profile t) (map bare_automaton file.automata)) (things-bare file)
    ∙ gathered placeless bare_automaton (automaton_profile (global_thing file)) (automaton_profile (global_thing file)) (automaton_profile-bare (global_thing file)) file.automata)
    (joined placeless (given_after (global_thing (bare_file file)) (λ x. false) (map bare_automaton file.automata)) _ (given_after (global_thing file) (λ x. false) file.automata) _
    (ap (λ t. given_after t (λ x. false) (map bare_automaton file.automata)) (things-bare file) ∙ given_after-bare (global_thing file) (λ x. false) file.automata)
    (gathered placeless bare_vector (two_writers (bare_file file)) (two_writers file) (two_writers-bare file) file.vectors))))

-- ---- all of them
pub faults-bare : (file : File) → faults (bare_file file) ≡ map placeless (faults file)
faults-bare file =
    first-bare (name_faults (bare_file file)) _ (name_faults file) _ (name_faults-bare file)
    (first-bare (type_faults (bare_file file)) _ (type_faults file) _ (type_faults-bare file) (profile_faults-bare file))

-- where one of two files that are the same but for places has no fault, neither has the other
pub none_too : (f g : File) → bare_file f ≡ bare_file g → faults f ≡ [] → faults g ≡ []
none_too f g e h = none_of (faults g) (sym (faults-bare g) ∙ (ap faults (sym e) ∙ (faults-bare f ∙ ap (map placeless) h)))
  where
    none_of : (xs : List Fault) → map placeless xs ≡ [] → xs ≡ []
    none_of [] k = refl
    none_of (x ∷ xs) k = absurd cc
