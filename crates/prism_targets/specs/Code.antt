-- What the code's values stand for.
use Rattle.std.specs.Prelude.{ℕ, List, [], ◌∷◌, ◌++◌, map, length, replicate, Bool, false, if◌then◌else◌, Vec}
use Rattle.std.specs.Global.{Global}
use Rattle.std.specs.List.{filter, flat_map}
use Rattle.std.specs.Option.{option_map}
use Rattle.process_core.specs.Ready.{Name}
use Rattle.jani_tree.specs.Syntax.{vector_of}
use Rattle.prism_translation.specs.Targets.{is_another}
use Rattle.prism_targets.specs.declared.rows.VectorRow.{VectorRow}
use Rattle.prism_targets.specs.declared.targets.Maker as made
use Rattle.prism_targets.specs.declared.targets.Target.{Target}
use Rattle.prism_targets.specs.declared.served.EdgeServing.{EdgeServing}
use Rattle.prism_targets.specs.declared.served.ElementServing.{ElementServing}
use Rattle.edge_tables.specs.Code.{split_view}
pub use Rattle.edge_tables.specs.Code.{Shape, shape_of}
use Rattle.edge_tables.specs.Tables.{EdgeTable, Split, Row, Served, all_numbers, calls, rows_from, served_from}
use Rattle.prism_targets.specs.Made.{Maker, Made, vector_made, silent_from}

-- ---- vectors
abbrev pub row_view : VectorRow → Row
row_view r = record { split = split_view r.split; first = r.first; behind = r.behind; end = r.end }

-- ---- targets
abbrev pub maker_view : made.Maker → Maker
maker_view m = record { element = m.element; edge = m.edge }

abbrev pub target_view : Target → Made
target_view t = record { vector = option_map (λ v. vector_of v.now) t.vector; writer = t.writer; maker = option_map maker_view t.maker }

-- ---- what is served
abbrev pub edge_served : EdgeServing → List ℕ × Bool
edge_served e = (e.targets.items, e.silent)

-- the loops with one action, of which one stands at each location; no loop is silent
abbrev pub loops_served : ℕ → Vec ℕ Global → List (List ℕ × Bool)
loops_served locations ns = replicate locations (ns.items, false)

abbrev pub element_served : ElementServing → Served
element_served e = record { edges = map edge_served e.edges.items ++ flat_map (loops_served e.locations) e.loops.items; blocked = e.blocked.items }

-- how many lists there are, and how often those of loops stand
abbrev pub shape_served : ElementServing → Shape
shape_served s = record { edges = length s.edges.items; loops = length s.loops.items; locations = s.locations }

-- the targets that a loop with this action serves: it assigns no rewards
abbrev pub loop_numbers : ℕ → Row → List ℕ
loop_numbers k r = if is_another k r.split.writer then all_numbers r else r.behind ∷ []

abbrev pub loop_serves : List Row → ℕ → Name → List ℕ
loop_serves rows k x = flat_map (loop_numbers k) (filter (calls k x) rows)

abbrev pub served_targets : List Split → List EdgeTable → List Made
served_targets ss each = flat_map vector_made ss ++ silent_from 0 each

abbrev pub served_elements : List Split → List EdgeTable → List Served
served_elements ss each = served_from (rows_from 0 ss) 0 (length (flat_map vector_made ss)) each
