-- What the program's elements and variables stand for (jani-model specification, version 1: "Automata", "Composition").
use Rattle.std.specs.Prelude.{List, map, Option, bytes_eq, unwrap_or}
use Rattle.std.specs.Borrow.{Bor}
use Rattle.std.specs.List.{find}
use Rattle.std.specs.Option.{option_map}
use Rattle.bridge_io.specs.declared.reason.Named.{Named}
use Rattle.jani_tree.specs.declared.syntax.JaniAutomaton.{JaniAutomaton}
use Rattle.jani_tree.specs.declared.syntax.JaniElement.{JaniElement}
use Rattle.jani_tree.specs.Syntax.{Automaton, Edge, automaton_of, edge_of, var_of}
use Rattle.jani_meaning.specs.Loops.{with_loops}
use Rattle.jani_meaning.specs.Elements as meaning
use Rattle.jani_meaning.specs.Elements.{nothing_called}
use Rattle.jani_instance.specs.declared.parts.Part.{Part}
use Rattle.name_rules.specs.declared.map.NameMap.{NameMap}
use Rattle.name_rules.specs.Names.{Name, under}
use Rattle.instance_start.specs.declared.data.Place.{Place}
use Rattle.jani_instance.specs.declared.parts.Owned.{Owned}
use Rattle.jani_instance.specs.declared.parts.Placed.{Placed}

-- an automaton with these edges
abbrev pub with_edges : Automaton → List Edge → Automaton
with_edges a es = record { name = a.name; variables = a.variables; locations = a.locations; initial = a.initial; edges = es }

-- the automaton that a name leads to; one that has nothing where there is none
abbrev pub named_automaton : Option (Bor JaniAutomaton) → Named → Automaton
named_automaton o n = unwrap_or (option_map (λ a. automaton_of a.now) o) (nothing_called n)

abbrev pub automaton_at : Part → Automaton
automaton_at p = with_edges (named_automaton p.automaton p.name.now) (map edge_of p.edges.now)

-- by what stands under names
abbrev pub automaton_by : NameMap (Bor JaniAutomaton) → Named → Automaton
automaton_by t n = named_automaton (under t n.name) n

abbrev pub looped_by : NameMap (Bor JaniAutomaton) → JaniElement → Automaton
looped_by t e = with_loops e.enable (automaton_by t e.name)

abbrev pub owned_at : Owned → meaning.Owned
owned_at o = record { owner = o.owner; var = var_of o.var.now }

-- where the first of this name stands
abbrev pub place_under : Name → List Placed → Option Place
place_under x ps = option_map (λ p. p.place) (find (λ p. bytes_eq p.name.now x) ps)
