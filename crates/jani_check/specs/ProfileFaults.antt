-- The forms of a JANI file that PRISM has no words for (jani-model specification, version 1: "Variables", "Automata",
-- "Compositions"; which of them are refused is this project's own choice).
use Rattle.std.specs.Prelude.{List, [], ◌∷◌, ◌++◌, Option, Bool, true, false, not, ◌&&◌, ◌||◌, bytes_eq, nat_eq, if◌then◌else◌}
use Rattle.std.specs.List.{flat_map, filter, find, list_any}
use Rattle.std.specs.Ordering.{int_eq}
use Rattle.std.specs.Option.{option_map}
use Rattle.bridge_io.specs.declared.reason.Named.{Named}
use Rattle.bridge_io.specs.declared.reason.Reason.TheVariants.{TransientRead, TransientInitial, TransientTwoAutomata, LabelOnEdge, BranchReward, TwoRewardWriters}
use Rattle.bridge_io.specs.declared.reason.Fault.{Fault}
use Rattle.frac_core.specs.declared.decimal.Decimal.{Decimal}
use Rattle.op_trees.specs.declared.tree.Ty.{Ty}
use Rattle.op_trees.specs.declared.tree.Ty.TheVariants as T
use Rattle.op_trees.specs.Tree.{Truth, Number, Name as At, One, Two, Three}
use Rattle.op_trees.specs.Standard.{same_truth}
use Rattle.op_trees.specs.Names.{names_of, offset_of, is_called}
use Rattle.jani_table.specs.Operators.{op_text}
use Rattle.jani_tree.specs.Syntax.{Expression, Var, Write, Destination, Edge, Automaton, Vector, File, element_names}
use Rattle.name_rules.specs.Least.{fault_if}
use Rattle.jani_check.specs.Things.{kind_type, global_thing, beside, is_label, is_reward, is_transient}
use Rattle.name_rules.specs.Names.{Name, is_among}
use Rattle.jani_check.specs.declared.things.Thing.{Thing}
use Rattle.basics.specs.Options.{if_some}
use Rattle.jani_check.specs.Demands.{Demand, fixed, varying, assigned, given, automaton_demands, outer_demands}
use Rattle.jani_check.specs.TypeFaults.{targets, has_action, edge_writes, participants}

-- ---- transient variables are not read, and labels are given their values by locations alone

abbrev pub read_fault : (Name → Option Thing) → Named → List Fault
read_fault things n = fault_if (is_transient (things n.name)) n.at TransientRead

abbrev pub reads : (Name → Option Thing) → Expression → List Fault
reads things e = flat_map (read_fault things) (names_of e)

abbrev pub demand_profile : (Name → Option Thing) → Demand → List Fault
demand_profile things (fixed w e) = reads things e
demand_profile things (varying w e) = reads things e
demand_profile things (assigned w) = fault_if (is_label (things w.target.name)) w.target.at LabelOnEdge ++ reads things w.value
demand_profile things (given w) = reads things w.value

-- ---- a transient variable begins with true, false or a literal of value 0, as its type wants

abbrev pub is_first : Ty → Expression → Bool
is_first T.Bool (Truth at b) = true
is_first T.Int (Number at d) = nat_eq d.digits 0
is_first T.Real (Number at d) = nat_eq d.digits 0
is_first T.Bool e = false
is_first T.Int e = false
is_first T.Real e = false

abbrev pub first_fault : Ty → Expression → List Fault
first_fault t e = fault_if (not (is_first t e)) (offset_of e) TransientInitial

abbrev pub start_faults : Var → List Fault
start_faults x = if x.transient then flat_map (first_fault (kind_type x.kind)) (if_some x.start) else []

-- ---- the locations of one automaton alone give values to a global transient variable

-- what the locations of an automaton give values to
abbrev pub given_by : Automaton → List Named
given_by a = flat_map (λ l. targets l.values) a.locations

-- beside what locations of earlier automata give values to
abbrev pub given_again : (Name → Option Thing) → (Name → Bool) → Named → List Fault
given_again global earlier n = fault_if (is_transient (global n.name) && earlier n.name) n.at TransientTwoAutomata

-- each automaton beside those before it in the list, whether they take part or not
abbrev pub given_after : (Name → Option Thing) → (Name → Bool) → List Automaton → List Fault
given_after global earlier [] = []
given_after global earlier (a ∷ rest) =
    flat_map (given_again global earlier) (given_by a) ++ given_after global (λ x. earlier x || is_among (given_by a) x) rest

-- ---- the destinations of one edge assign the same rewards

abbrev pub same_number : Decimal → Decimal → Bool
same_number d e =
    same_truth d.real e.real && (same_truth d.negative e.negative && (nat_eq d.digits e.digits && int_eq d.exponent e.exponent))

-- equal as they are written, wherever they stand: 1 and 1.0 are two trees
abbrev pub same_tree : Expression → Expression → Bool
same_tree (Truth at b) (Truth from c) = same_truth b c
same_tree (Number at d) (Number from e) = same_number d e
same_tree (At at x) (At from y) = bytes_eq x y
same_tree (One at o a) (One from p d) = bytes_eq (op_text o) (op_text p) && same_tree a d
same_tree (Two at o a b) (Two from p d e) = bytes_eq (op_text o) (op_text p) && (same_tree a d && same_tree b e)
same_tree (Three at o a b c) (Three from p d e f) =
    bytes_eq (op_text o) (op_text p) && (same_tree a d && (same_tree b e && same_tree c f))
same_tree (Truth _ _) f = false
same_tree (Number _ _) f = false
same_tree (At _ _) f = false
same_tree (One _ _ _) f = false
same_tree (Two _ _ _ _) f = false
same_tree (Three _ _ _ _ _) f = false

-- what is assigned to a name
abbrev pub value_for : List Write → Name → Option Expression
value_for ws x = option_map (λ w. w.value) (find (λ w. is_called x w.target) ws)

-- the rewards among some assignments
abbrev pub rewards_by : (Name → Option Thing) → List Write → List Write
rewards_by things ws = filter (λ w. is_reward (things w.target.name)) ws

-- a reward that is not assigned there, or not with this tree, by what is assigned to each name there
abbrev pub lacks : (Name → Option Expression) → Write → Bool
lacks values w = not (list_any (same_tree w.value) (if_some (values w.target.name)))

-- one of two destinations assigns a reward that the other does not
abbrev pub differ : (Name → Option Thing) → Destination → Destination → Bool
differ things d e =
    list_any (lacks (value_for e.writes)) (rewards_by things d.writes) || list_any (lacks (value_for d.writes)) (rewards_by things e.writes)

-- some two destinations do
abbrev pub some_differ : (Name → Option Thing) → List Destination → Bool
some_differ things [] = false
some_differ things (d ∷ ds) = list_any (differ things d) ds || some_differ things ds

abbrev pub branch_rewards : (Name → Option Thing) → Edge → List Fault
branch_rewards things e = fault_if (some_differ things e.destinations) e.at BranchReward

-- in an automaton, by what names stand for outside of it
abbrev pub automaton_profile : (Name → Option Thing) → Automaton → List Fault
automaton_profile global a =
    flat_map start_faults a.variables
    ++ (flat_map (demand_profile (beside global a.variables)) (automaton_demands a)
    ++ flat_map (branch_rewards (beside global a.variables)) a.edges)

-- ---- one participant of a vector alone assigns rewards

abbrev pub assigns_reward : (Name → Option Thing) → Edge → Bool
assigns_reward things e = list_any (λ w. is_reward (things w.target.name)) (edge_writes e)

-- some edge with an action does
abbrev pub rewards_with : (Name → Option Thing) → Automaton → Name → Bool
rewards_with global a x = list_any (λ e. has_action x e && assigns_reward (beside global a.variables) e) a.edges

-- some two of these hold
abbrev pub two_hold : List Bool → Bool
two_hold [] = false
two_hold (b ∷ bs) = (b && list_any (λ c. c) bs) || two_hold bs

abbrev pub two_writers : File → Vector → List Fault
two_writers file v = fault_if (two_hold (participants (rewards_with (global_thing file)) false file (element_names file) v.parts)) v.at TwoRewardWriters

abbrev pub profile_faults : File → List Fault
profile_faults file =
    flat_map start_faults file.variables
    ++ (flat_map (demand_profile (global_thing file)) (outer_demands file)
    ++ (flat_map (automaton_profile (global_thing file)) file.automata
    ++ (given_after (global_thing file) (λ x. false) file.automata ++ flat_map (two_writers file) file.vectors)))
