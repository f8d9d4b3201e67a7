use Rattle.std.proofs.Common.{◌≡◌, ℕ, map, take}
use Rattle.std.specs.List.{list_any}
use Rattle.jani_tree.specs.Syntax as jani
use Rattle.edge_tables.specs.Elements.{some_write, is_to}
use Rattle.module_parts.specs.Code.{file_in}
use Rattle.module_parts.specs.Writers.{writers_at, with_if}
use Rattle.module_parts.proofs.writers.WriterTable.add_element.Given as goal

abbrev pub invariant-loop-e : goal.invariant-loop-e
invariant-loop-e l =
    (i : ℕ) → writers_at l.self i
    ≡ with_if (list_any (some_write (is_to (file_in l.names) i l.el.number)) (map jani.edge_of (take l.e-index l.e-items))) l.el.number (writers_at l.initial.self i)
