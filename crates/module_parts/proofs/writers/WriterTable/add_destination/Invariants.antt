use Rattle.std.proofs.Common.{◌≡◌, ℕ, map, take}
use Rattle.std.specs.List.{list_any}
use Rattle.jani_tree.specs.Syntax as jani
use Rattle.edge_tables.specs.Elements.{is_to}
use Rattle.module_parts.specs.Code.{file_in}
use Rattle.module_parts.specs.Writers.{writers_at, with_if}
use Rattle.module_parts.proofs.writers.WriterTable.add_destination.Given as goal

abbrev pub invariant-loop-w : goal.invariant-loop-w
invariant-loop-w l =
    (i : ℕ) → writers_at l.self i ≡ with_if (list_any (is_to (file_in l.names) i l.element) (map jani.write_of (take l.w-index l.w-items))) l.element (writers_at l.initial.self i)
