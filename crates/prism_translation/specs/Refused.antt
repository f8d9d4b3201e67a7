-- The JANI files without fault that have no translation: their faults (this project's own rule).
use Rattle.std.specs.Prelude.{ℕ, ◌+◌, ◌*◌, List, map, length, Bool, ◌&&◌, ◌||◌, Option, Some, None, is_some, is_none, nat_lt, if◌then◌else◌}
use Rattle.std.specs.List.{filter, flat_map, list_any, sum_by}
use Rattle.bridge_io.specs.declared.reason.Fault.{Fault}
use Rattle.bridge_io.specs.declared.reason.Reason.TheVariants.{SharedWrite, TooLarge}
use Rattle.op_trees.specs.Tree.{node_count}
use Rattle.jani_tree.specs.Syntax.{Expression, Destination, Edge, File, element_names, Automaton, Location}
use Rattle.name_rules.specs.Least.{fault, fault_if, or_else}
use Rattle.jani_meaning.specs.Elements as jani
use Rattle.jani_meaning.specs.Elements.{Owned, labels, lasting}
use Rattle.jani_meaning.specs.Scene.{has_condition}
use Rattle.prism_translation.specs.Elements.{Element, elements, edges_of, Placed, placed_edges, some_write, is_to, is_reward, Lasting, lasting_variables, writers, may_use}
use Rattle.prism_translation.specs.Targets.{targets, serves, serves_silently, is_blocked}
use Rattle.prism_translation.specs.Marks.{given_by}
use Rattle.bridge_io.specs.declared.reason.Named.{Named}
use Rattle.jani_meaning.specs.Loops.{is_with}

-- ---- a global variable that edges of two elements write, one of them with an action or with rewards: PRISM's commands with
-- an action write no global variable
abbrev pub binds : File → ℕ → Element → Edge → Bool
binds file i el e = some_write (is_to file i el.number) e && (is_some e.action || some_write (is_reward file el.number) e)

abbrev pub has_two : {X : Type 0} → List X → Bool
has_two xs = nat_lt 1 (length xs)

abbrev pub is_split : File → Lasting → Bool
is_split file x =
    is_none x.owned.owner
    && (has_two (writers file x.number) && list_any (λ el. list_any (binds file x.number el) (edges_of el)) (elements file))

abbrev pub shared_faults : File → List Fault
shared_faults file =
    map (λ x. fault x.owned.var.name.at SharedWrite) (filter (is_split file) (lasting_variables file))

-- ---- too large a result
-- the actions that an edge serves
abbrev pub served : File → Placed → ℕ
served file p = length (filter (λ t. serves file t p) (targets file)) + (if serves_silently file p then 1 else 0)

abbrev pub nodes_if : Option Expression → ℕ
nodes_if None = 0
nodes_if (Some e) = node_count e

-- the nodes of its guard, its probabilities and all that it assigns, rewards included
abbrev pub destination_nodes : Destination → ℕ
destination_nodes d = nodes_if d.weight + sum_by (λ w. node_count w.value) d.writes

abbrev pub edge_nodes : Edge → ℕ
edge_nodes e = nodes_if e.guard + sum_by destination_nodes e.destinations

abbrev pub all_edges : File → List Placed
all_edges file = flat_map placed_edges (elements file)

-- once for each action that it serves
abbrev pub result_nodes : File → ℕ
result_nodes file = sum_by (λ p. edge_nodes p.edge * served file p) (all_edges file)

-- the commands of edges, and those that block
abbrev pub result_commands : File → ℕ
result_commands file =
    sum_by (served file) (all_edges file) + sum_by (λ el. length (filter (is_blocked file el) (targets file))) (elements file)

-- an element's locations give a boolean transient variable so many values
abbrev pub values_given : Owned → Element → ℕ
values_given o el = if may_use el.number o.owner then length (given_by o.var.name.name el) else 0

-- the initial condition has more parts than an expression may, or one of its parts has
abbrev pub has_many_starts : File → Bool
has_many_starts file =
    has_condition file && (list_any (λ a. nat_lt 1024 (length a.initial)) (jani.elements file) || nat_lt 1024 (length (element_names file) + length (lasting file)))

-- commands or nodes, or values of a label
abbrev pub has_large_result : File → Bool
has_large_result file =
    nat_lt 200000 (result_commands file) || (nat_lt 2000000 (result_nodes file)
    || list_any (λ o. list_any (λ el. nat_lt 1024 (values_given o el)) (elements file)) (labels file))

-- an automaton with loops has more than 1,024 edges with this action at this location
abbrev pub is_crowded_at : Automaton → Named → Location → Bool
is_crowded_at a x l = nat_lt 1024 (length (filter (is_with x.name l.name.name) a.edges))

-- for one of these actions, at one of its locations
abbrev pub has_crowd : List Named → Automaton → Bool
has_crowd actions a = list_any (λ x. list_any (is_crowded_at a x) a.locations) actions

-- the guard of a loop joins the guards of so many edges: an element has too many with an action that it accepts everywhere
abbrev pub has_long_guard : File → Bool
has_long_guard file = list_any (λ e. has_crowd e.enable (jani.element_automaton file e)) file.elements

abbrev pub is_too_large : File → Bool
is_too_large file = has_many_starts file || (has_large_result file || has_long_guard file)

abbrev pub size_faults : File → List Fault
size_faults file = fault_if (is_too_large file) 0 TooLarge

-- those of the first phase that has any
abbrev pub refused : File → List Fault
refused file = or_else (shared_faults file) (size_faults file)
