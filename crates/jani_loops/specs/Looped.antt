-- The elements of a file as automata with loops, as the code has them.
use Rattle.std.specs.Prelude.{◌≡◌, List, [], ◌∷◌, map, length, Bool, not, Option, Some, None, nat_eq, unwrap_or}
use Rattle.std.specs.Borrow.{Bor}
use Rattle.std.specs.List.{AllByRecursion as Each}
use Rattle.std.specs.Option.{option_map}
use Rattle.bridge_io.specs.declared.reason.Named.{Named}
use Rattle.op_trees.specs.Tree.{Two}
use Rattle.name_rules.specs.declared.map.NameMap.{NameMap}
use Rattle.name_rules.specs.Names.{under}
use Rattle.jani_tree.specs.JaniOp.TheVariants.{Or}
use Rattle.jani_tree.specs.declared.syntax.JaniAutomaton.{JaniAutomaton}
use Rattle.jani_tree.specs.declared.syntax.JaniEdge.{JaniEdge}
use Rattle.jani_tree.specs.Syntax.{Expression, Destination, Edge, Automaton, Element, File, automaton_of, edge_of}
use Rattle.jani_meaning.specs.Loops.{either, none_of, or_true, with_loops}
use Rattle.jani_meaning.specs.Elements.{elements, nothing_called}

-- ---- what is promised
abbrev pub accepts : Element → Bool
accepts e = not (nat_eq (length e.enable) 0)

-- Either no element accepts an action everywhere, or these are the elements with their loops.
abbrev pub IsLooped : File → Option (List JaniAutomaton) → Type 0
IsLooped file None = Each (λ e. e.enable ≡ []) file.elements
IsLooped file (Some l) = map automaton_of l ≡ elements file

-- ---- how it is made
abbrev pub lent_edge : Bor JaniEdge → Edge
lent_edge e = edge_of e.now

-- the guards of edges, a missing one being true
abbrev pub guards : List Edge → List Expression
guards es = map (λ e. or_true e.guard) es

-- what holds where one of them does; none where there are none
abbrev pub some_of : List Expression → Option Expression
some_of [] = None
some_of (g ∷ gs) = Some (either g gs)

-- a guard beside those before it
abbrev pub beside : Option Expression → Expression → Expression
beside None g = g
beside (Some b) g = Two 0 Or b g

abbrev pub staying : Named → Destination
staying n = record { location = n; weight = None; writes = [] }

-- a loop with an action at a location, beside these edges
abbrev pub loop_with : Named → Named → List Edge → Edge
loop_with x n es = record { location = n; action = Some x; guard = none_of (guards es); destinations = staying n ∷ []; at = x.at }

-- ---- elements by their names
abbrev pub automaton_or_nothing : Option (Bor JaniAutomaton) → Named → Automaton
automaton_or_nothing a n = unwrap_or (option_map (λ a. automaton_of a.now) a) (nothing_called n)

abbrev pub element_under : NameMap (Bor JaniAutomaton) → Element → Automaton
element_under t e = with_loops e.enable (automaton_or_nothing (under t e.name.name) e.name)
