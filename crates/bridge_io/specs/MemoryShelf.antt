-- What clauses see of a shelf in memory.
use Rattle.std.specs.Prelude.{ℕ, List, [], Option, IsSome, unwrap_or}
use Rattle.std.specs.BTreeMap.{get_by_text}
use Rattle.bridge_io.specs.Tally.{Counts, IsCalm}
use Rattle.bridge_io.specs.declared.memory_shelf.MemoryShelf.{MemoryShelf}

-- the bytes that are left under a name, none where the name is not on the shelf
abbrev pub left_under : MemoryShelf → List ℕ → Option (List ℕ)
left_under s name = get_by_text s.files name

-- the same, no bytes where the name is not on the shelf
abbrev pub bytes_under : MemoryShelf → List ℕ → List ℕ
bytes_under s name = unwrap_or (left_under s name) []

-- its calls, its faults and the calls that are to fail
abbrev pub counts_of : MemoryShelf → Counts
counts_of s = s.tally

-- No read under the name fails from here on: it is on the shelf, and no call that is to fail is still to come.
abbrev pub IsSteady : MemoryShelf → List ℕ → Type 0
IsSteady s name = IsSome (left_under s name) × IsCalm (counts_of s)
