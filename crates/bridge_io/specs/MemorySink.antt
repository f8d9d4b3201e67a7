-- What clauses see of a sink in memory.
use Rattle.std.specs.Prelude.{ℕ, List}
use Rattle.bridge_io.specs.Tally.{Counts}
use Rattle.bridge_io.specs.declared.memory_sink.MemorySink.{MemorySink}

-- the bytes that it took
abbrev pub taken_of : MemorySink → List ℕ
taken_of s = s.bytes.items

-- the bytes that it takes in a call at most
abbrev pub most_of : MemorySink → ℕ
most_of s = s.most

-- the bytes that it still has room for
abbrev pub room_of : MemorySink → ℕ
room_of s = s.room

-- its calls, its faults and the calls that are to fail
abbrev pub counts_of : MemorySink → Counts
counts_of s = s.tally
