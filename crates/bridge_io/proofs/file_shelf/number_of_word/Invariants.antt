use Rattle.std.proofs.Common.{◌≡◌, ◌<◌, ℕ, map, string_bytes, slice_index_or}
use Rattle.bridge_io.proofs.file_shelf.number_of_word.Given as goal

-- no word before this one is the name
abbrev pub invariant-loop-number : goal.invariant-loop-number
invariant-loop-number l = (k : ℕ) → k < l.number → slice_index_or (map string_bytes l.words) k l.name ≡ l.name → ⊥
