-- What a feeder that keeps its bytes stands for.
use Rattle.std.specs.Prelude.{◌≡◌, ℕ, false, List, length}
use Rattle.bridge_io.specs.declared.whole.Whole.{Whole}

-- how many bytes it was fed
abbrev pub kept_count : Whole → ℕ
kept_count whole = length whole.bytes

-- It stands for the bytes that it keeps, and for no others; for none once memory was refused.
abbrev pub IsKept : Whole → List ℕ → Type 0
IsKept whole bytes = (whole.refused ≡ false) × (bytes ≡ whole.bytes)
