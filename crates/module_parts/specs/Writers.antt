-- The elements that write a variable, as the code gathers them: none, one, or several.
use Rattle.std.specs.Prelude.{ℕ, List, Bool, Option, Some, None, fold, nat_eq, slice_get, unwrap_or, if◌then◌else◌}
use Rattle.std.specs.List.{list_any}
use Rattle.jani_tree.specs.Syntax.{File}
use Rattle.edge_tables.specs.Elements.{Element, edges_of, some_write, is_to}
use Rattle.module_parts.specs.declared.writers.Writers.{Writers}
use Rattle.module_parts.specs.declared.writers.Writers.TheVariants.{Nobody, One, Several}
use Rattle.module_parts.specs.declared.writers.WriterTable.{WriterTable}

-- these, and one more
abbrev pub with_writer : ℕ → Writers → Writers
with_writer k Nobody = One k
with_writer k (One j) = if nat_eq j k then One j else Several
with_writer k Several = Several

abbrev pub with_if : Bool → ℕ → Writers → Writers
with_if b k w = if b then with_writer k w else w

-- the element whose module has a variable with these writers
abbrev pub home_for : Writers → Option ℕ
home_for Nobody = Some 0
home_for (One k) = Some k
home_for Several = None

-- those of the variable of this number
abbrev pub writers_at : WriterTable → ℕ → Writers
writers_at t i = unwrap_or (slice_get t.writers.items i) Nobody

-- an element writes the variable of this number
abbrev pub writes : File → ℕ → Element → Bool
writes file i el = list_any (some_write (is_to file i el.number)) (edges_of el)

-- those of the variable of this number among these elements, one after another
abbrev pub writers_through : File → ℕ → List Element → Writers
writers_through file i els = fold (λ w el. with_if (writes file i el) el.number w) Nobody els
