-- Which automata have too many edges beside a loop: with an action that their element accepts everywhere, at one location.
use Rattle.std.specs.Prelude.{List, Bool, false, Option, Some, None, length, nat_lt}
use Rattle.std.specs.List.{filter, list_any}
use Rattle.std.specs.Borrow.{Bor}
use Rattle.bridge_io.specs.declared.reason.Named.{Named}
use Rattle.name_rules.specs.declared.map.NameMap.{NameMap}
use Rattle.name_rules.specs.Names.{under}
use Rattle.jani_tree.specs.declared.syntax.JaniAutomaton.{JaniAutomaton}
use Rattle.jani_tree.specs.Syntax.{Automaton, Element, automaton_of}
use Rattle.jani_meaning.specs.Loops.{has_name}
use Rattle.edge_tables.specs.Counts.{edges_at}

-- an automaton has 1,024 edges or more with one of these actions at one location
abbrev pub has_many_edges : List Named → Automaton → Bool
has_many_edges actions a = list_any (λ x. list_any (λ l. nat_lt 1023 (length (edges_at l (filter (λ e. has_name x.name e.action) a.edges)))) a.locations) actions

abbrev pub has_many : List Named → Option (Bor JaniAutomaton) → Bool
has_many actions None = false
has_many actions (Some a) = has_many_edges actions (automaton_of a.now)

-- the automaton of an element, by a table of those of a file
abbrev pub crowded_by : NameMap (Bor JaniAutomaton) → Element → Bool
crowded_by t e = has_many e.enable (under t e.name.name)
