-- Where a variable has its home by the table of writers.
use Rattle.std.specs.Prelude.{◌≡◌, ℕ, Bool, ◌&&◌, Option, Some, None, is_none}
use Rattle.jani_tree.specs.Syntax.{File}
use Rattle.edge_tables.specs.Elements.{Lasting, elements, is_at}
use Rattle.module_parts.specs.declared.writers.Writers.{Writers}
use Rattle.module_parts.specs.declared.writers.WriterTable.{WriterTable}
use Rattle.module_parts.specs.Writers.{home_for, writers_at, writers_through}

abbrev pub home_with : Writers → Option ℕ → Option ℕ
home_with w None = home_for w
home_with w (Some k) = Some k

abbrev pub home_by_table : WriterTable → Lasting → Option ℕ
home_by_table t x = home_with (writers_at t x.number) x.owned.owner

-- a global variable whose home is the element of this number
abbrev pub is_adopted : WriterTable → ℕ → Lasting → Bool
is_adopted t k x = is_none x.owned.owner && is_at k (home_by_table t x)

-- these are the writers of the variables of the file
pub record AreWriters (t : WriterTable) (file : File) : Type 0 where
  pub writers_are : (i : ℕ) → writers_at t i ≡ writers_through file i (elements file)
