use Rattle.std.proofs.Common.{◌≡◌, ℕ, map, take}
use Rattle.module_parts.specs.Code.{file_in, element_of}
use Rattle.module_parts.specs.Writers.{writers_at, writers_through}
use Rattle.module_parts.proofs.writers.WriterTable.of.Given as goal

abbrev pub invariant-loop-el : goal.invariant-loop-el
invariant-loop-el l = (i : ℕ) → writers_at l.all i ≡ writers_through (file_in l.names) i (map element_of (take l.el-index l.elements))
