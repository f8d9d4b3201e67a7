-- What the code's values stand for.
use Rattle.std.specs.Prelude.{◌≡◌, ℕ, List, [], ◌++◌, map, length, Bool, false, Option, Some, None, is_some, slice_get, unwrap_or}
use Rattle.std.specs.Borrow.{Bor}
use Rattle.std.specs.List.{filter, sum_by}
use Rattle.std.specs.Option.{option_map}
use Rattle.bridge_io.specs.declared.reason.Named.{Named}
use Rattle.op_trees.specs.Tree.{capped}
use Rattle.process_core.specs.Ready.{Name}
use Rattle.jani_tree.specs.Syntax.{Automaton, Edge, Write, automaton_of, edge_of, vector_of}
use Rattle.jani_meaning.specs.Loops.{loops}
use Rattle.jani_loops.specs.declared.accepting.ElementAutomaton.{ElementAutomaton}
use Rattle.name_rules.specs.Names.{has_name, under}
use Rattle.prism_translation.specs.Elements.{is_at, some_write}
use Rattle.gathering.specs.Lists.{list_under}
use Rattle.edge_tables.specs.declared.places.Places.{Places}
use Rattle.edge_tables.specs.Places.{place_in}
use Rattle.edge_tables.specs.declared.edges.RankedEdge.{RankedEdge}
use Rattle.edge_tables.specs.declared.edges.ElementEdges.{ElementEdges}
use Rattle.edge_tables.specs.declared.splits.VectorSplit.{VectorSplit}
use Rattle.edge_tables.specs.declared.shared.Writing as code
use Rattle.edge_tables.specs.declared.shared.Writings.{Writings}
use Rattle.edge_tables.specs.Tables.{Ranked, EdgeTable, Split, ranked_loop}
use Rattle.edge_tables.specs.declared.sums.Sums.{Sums}
use Rattle.edge_tables.specs.Counts.{weight, names_split, value_count, Writing, unwritten}

-- ---- names
abbrev pub name_of : Option (Bor Named) → Option Name
name_of a = option_map (λ n. n.now.name) a

abbrev pub name_in : Option Named → Option Name
name_in a = option_map (λ n. n.name) a

-- an edge of the element assigns a structure
abbrev pub pays_by : Places → ℕ → Edge → Bool
pays_by t k e = some_write (λ w. is_some (place_in t k w.target.name)) e

-- ---- edges
abbrev pub ranked_view : RankedEdge → Ranked
ranked_view a = record { edge = edge_of a.edge.now; rewarding = a.rewarding; rank = a.rank }

abbrev pub numbers_in : ElementEdges → Option Name → List ℕ
numbers_in t None = t.silent
numbers_in t (Some x) = list_under t.rewarding x

-- those of the automaton, and which names were noted
abbrev pub own_table : ElementEdges → EdgeTable
own_table t = record { edges = map ranked_view t.edges.items; rewarding = numbers_in t; plain = has_name t.plain }

abbrev pub loops_of : ElementAutomaton → List Edge
loops_of e = loops e.accepts.now (automaton_of e.automaton.now)

-- and the loops, whose actions were noted, too
abbrev pub table_view : ElementEdges → EdgeTable
table_view t = record {
  edges = map ranked_view t.edges.items ++ map (ranked_loop (numbers_in t)) (loops_of t.element);
  rewarding = numbers_in t;
  plain = has_name t.plain;
}

-- how many edges an element's automaton has, actions that the element accepts everywhere, and locations
pub record Shape : Type 0 where
  pub edges : ℕ
  pub loops : ℕ
  pub locations : ℕ

abbrev pub shape_of : ElementAutomaton → Shape
shape_of e = record { edges = length e.automaton.now.edges; loops = length e.accepts.now; locations = length e.automaton.now.locations }

abbrev pub shape_kept : ElementEdges → Shape
shape_kept t = record { edges = length t.edges.items; loops = length t.element.accepts.now; locations = length t.element.automaton.now.locations }

abbrev pub no_edges : EdgeTable
no_edges = record { edges = []; rewarding = λ a. []; plain = λ x. false }

-- ---- vectors
abbrev pub split_view : VectorSplit → Split
split_view s = record { vector = vector_of s.vector.now; writer = s.writer; makers = s.makers.now; plain = s.plain }

-- ---- sums
abbrev pub sum_under : Sums → Name → ℕ
sum_under t x = unwrap_or (under t.by_name x) 0

-- for each action, how many targets an edge of the element of this number with it serves
abbrev pub AreSums : Sums → List Split → ℕ → Type 0
AreSums t ss k = (x : Name) → sum_under t x ≡ capped (sum_by (weight k) (filter (names_split k x) ss))

-- for each name, how many values the locations of the automaton give
abbrev pub AreCounts : Sums → Automaton → Type 0
AreCounts t a = (x : Name) → capped (sum_under t x) ≡ capped (value_count a x)

abbrev pub usable_in : Places → ℕ → Name → Bool
usable_in t k x = is_some (place_in t k x)

-- ---- edges that assign variables
abbrev pub writing_view : code.Writing → Writing
writing_view w = record { first = w.first; several = w.several; binding = w.binding }

-- of the variable at a place
abbrev pub writing_at : Writings → ℕ → Writing
writing_at t i = unwrap_or (option_map writing_view (slice_get t.table.items i)) unwritten

abbrev pub is_to_place : Places → ℕ → ℕ → Write → Bool
is_to_place t i k w = is_at i (place_in t k w.target.name)
