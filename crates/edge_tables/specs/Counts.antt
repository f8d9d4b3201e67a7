-- How many commands and nodes a translation has, by what is known of the edges of the elements and of the vectors (this
-- project's own rule).
use Rattle.std.specs.Prelude.{ℕ, ◌+◌, ◌*◌, List, [], ◌∷◌, length, Bool, false, ◌&&◌, ◌||◌, not, Option, Some, None, is_some, is_none, nat_eq, nat_lt, unwrap_or, if◌then◌else◌}
use Rattle.std.specs.List.{filter, fold, list_any, sum_by}
use Rattle.bridge_io.specs.declared.reason.Reason.TheVariants.{SharedWrite}
use Rattle.bridge_io.specs.declared.reason.Fault.{Fault}
use Rattle.process_core.specs.Ready.{Name}
use Rattle.jani_tree.specs.Syntax.{Automaton, Destination, Edge, Location, Write, File}
use Rattle.op_trees.specs.Names.{is_called}
use Rattle.op_trees.specs.Tree as tree
use Rattle.bridge_io.specs.declared.reason.Named.{Named}
use Rattle.jani_meaning.specs.Loops.{has_name, or_true}
use Rattle.jani_meaning.specs.Elements.{Owned, place_of}
use Rattle.name_rules.specs.Least.{fault_if}
use Rattle.process_core.specs.Instance.{numbered}
use Rattle.prism_translation.specs.Elements.{action_of, is_at}
use Rattle.prism_translation.specs.Targets.{part_of, is_named, is_another}
use Rattle.prism_translation.specs.Refused.{edge_nodes, result_commands, result_nodes}
use Rattle.edge_tables.specs.Tables.{Ranked, EdgeTable, Split, split_count, has_edge}

-- how many targets of a vector an edge of the element of this number serves whose action the vector names
abbrev pub weight : ℕ → Split → ℕ
weight k s = if is_another k s.writer then split_count s else 1

abbrev pub names_split : ℕ → Name → Split → Bool
names_split k x s = is_named (part_of s.vector k) (Some x)

-- how many actions an edge with this action serves; a silent one serves one
abbrev pub action_count : List Split → ℕ → Option Name → ℕ
action_count ss k None = 1
action_count ss k (Some x) = sum_by (weight k) (filter (names_split k x) ss)

-- a vector names an action for the element, and no edge of it has this
abbrev pub blocks_split : ℕ → EdgeTable → Split → Bool
blocks_split k a s = is_some (part_of s.vector k) && not (has_edge a (part_of s.vector k))

-- ---- of an element
abbrev pub edge_count : List Split → ℕ → Ranked → ℕ
edge_count ss k a = action_count ss k (action_of a.edge)

abbrev pub command_count : List Split → ℕ → EdgeTable → ℕ
command_count ss k a = sum_by (edge_count ss k) a.edges + sum_by split_count (filter (blocks_split k a) ss)

abbrev pub node_count : List Split → ℕ → EdgeTable → ℕ
node_count ss k a = sum_by (λ e. edge_nodes e.edge * edge_count ss k e) a.edges

-- ---- of loops
-- the edges that start at a location
abbrev pub edges_at : Location → List Edge → List Edge
edges_at l es = filter (λ e. is_called l.name.name e.location) es

-- the nodes of the guard of a loop beside these edges: of their guards, of which a missing one is true, and one for each, by which it is
-- joined to those before, or by which all are negated
abbrev pub joined_nodes : List Edge → ℕ
joined_nodes es = sum_by (λ e. tree.node_count (or_true e.guard) + 1) es

-- the nodes of the guards of an automaton's loops with an action, one at each location
abbrev pub guard_nodes : Automaton → Named → ℕ
guard_nodes a x = sum_by (λ l. joined_nodes (edges_at l (filter (λ e. has_name x.name e.action) a.edges))) a.locations

-- ---- of elements from a number on
abbrev pub commands_from : List Split → ℕ → List EdgeTable → ℕ
commands_from ss k [] = 0
commands_from ss k (a ∷ more) = command_count ss k a + commands_from ss (k + 1) more

abbrev pub nodes_from : List Split → ℕ → List EdgeTable → ℕ
nodes_from ss k [] = 0
nodes_from ss k (a ∷ more) = node_count ss k a + nodes_from ss (k + 1) more

-- ---- of a file
abbrev pub has_many_commands : File → Bool
has_many_commands file = nat_lt 200000 (result_commands file) || nat_lt 2000000 (result_nodes file)

-- ---- values of boolean transient variables
-- how many values the locations give to a name
abbrev pub value_count : Automaton → Name → ℕ
value_count a x = sum_by (λ l. length (filter (λ w. is_called x w.target) l.values)) a.locations

-- a location gives a value to a name that passes a test, and the locations give this name more than 1,024
abbrev pub is_crowded : (Name → Bool) → Automaton → Write → Bool
is_crowded usable a w = nat_lt 1024 (value_count a w.target.name) && usable w.target.name

abbrev pub some_crowded : (Name → Bool) → Automaton → Bool
some_crowded usable a = list_any (λ l. list_any (is_crowded usable a) l.values) a.locations

-- of elements from a number on, each with its own test
abbrev pub crowded_from : (ℕ → Name → Bool) → ℕ → List Automaton → Bool
crowded_from usable k [] = false
crowded_from usable k (a ∷ more) = some_crowded (usable k) a || crowded_from usable (k + 1) more

-- names that stand for one of these variables in an element
abbrev pub usable_among : List Owned → ℕ → Name → Bool
usable_among vars k x = is_some (place_of vars k x)

-- ---- edges that assign one variable
-- the first element with such an edge, whether another has one, and whether one of these has an action or assigns rewards
pub record Writing : Type 0 where
  pub first : Option ℕ
  pub several : Bool
  pub binding : Bool

abbrev pub unwritten : Writing
unwritten = record { first = None; several = false; binding = false }

abbrev pub is_other : ℕ → Option ℕ → Bool
is_other k None = false
is_other k (Some j) = not (nat_eq j k)

-- the element of this number has one; whether that has an action or assigns rewards
abbrev pub noted : ℕ → Bool → Writing → Writing
noted k b w = record { first = Some (unwrap_or w.first k); several = w.several || is_other k w.first; binding = w.binding || b }

abbrev pub note_if : Bool → ℕ → Bool → Writing → Writing
note_if c k b w = if c then noted k b w else w

-- assignments of an edge of the element, where a test tells those to the variable
abbrev pub noting_writes : (Write → Bool) → ℕ → Bool → Writing → List Write → Writing
noting_writes to k b w ws = fold (λ s v. note_if (to v) k b s) w ws

abbrev pub noting_destinations : (Write → Bool) → ℕ → Bool → Writing → List Destination → Writing
noting_destinations to k b w ds = fold (λ s d. noting_writes to k b s d.writes) w ds

abbrev pub binds_writes : Ranked → Bool
binds_writes a = is_some a.edge.action || a.rewarding

abbrev pub noting_edges : (Write → Bool) → ℕ → Writing → List Ranked → Writing
noting_edges to k w edges = fold (λ s a. noting_destinations to k (binds_writes a) s a.edge.destinations) w edges

-- elements from a number on, each with its own test
abbrev pub written_from : (ℕ → Write → Bool) → ℕ → List EdgeTable → Writing → Writing
written_from to k [] w = w
written_from to k (a ∷ more) w = written_from to (k + 1) more (noting_edges (to k) k w a.edges)

-- ---- global variables that are split between elements, by what is known of each variable
abbrev pub is_split_by : Owned → Writing → Bool
is_split_by o w = is_none o.owner && (w.several && w.binding)

abbrev pub split_faults : (ℕ → Writing) → ℕ → List Owned → List Fault
split_faults written i os = numbered (λ i o. fault_if (is_split_by o (written i)) o.var.name.at SharedWrite) i os

-- what is known of the variable at a place among these
abbrev pub written_in : List Owned → List EdgeTable → ℕ → Writing
written_in vars all i = written_from (λ k w. is_at i (place_of vars k w.target.name)) 0 all unwritten
