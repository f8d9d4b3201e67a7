-- The bytes of a text, where it is kept in its place and where it is on the heap.
use Rattle.std.specs.Prelude.{List, ℕ, string_bytes}
use Rattle.std.specs.Box.{box_value}
use Rattle.bridge_io.specs.declared.list.Kept.{Kept}
use Rattle.bridge_io.specs.declared.list.Kept.TheVariants.{Short, Long}

abbrev pub bytes_kept : Kept → List ℕ
bytes_kept (Short bytes) = bytes
bytes_kept (Long text) = string_bytes (box_value text)
