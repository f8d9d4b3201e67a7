-- What a map of lines stands for: where lines end among bytes.
use Rattle.std.specs.Prelude.{◌≡◌, ℕ, ◌==◌, Bool, true, false, cond, List, [], ◌∷◌, ◌++◌, length, map, replicate}
use Rattle.std.specs.List.{flat_map}
use Rattle.bridge_io.specs.declared.line_map.LineMap.{LineMap}

-- for each byte whether it ends a line, as a line feed (byte 10) does
abbrev pub line_ends : List ℕ → List Bool
line_ends bytes = map (λ b. b == 10) bytes

-- A mark below 255 stands for a line of so many bytes and its line feed, and 255 for 255 bytes of a line that goes on.
abbrev pub ends_marked : ℕ → List Bool
ends_marked mark = replicate mark false ++ cond (mark == 255) [] (true ∷ [])

-- what the marks stand for, and behind them the bytes of the last line so far
abbrev pub map_ends : LineMap → List Bool
map_ends lines = flat_map ends_marked lines.marks ++ replicate lines.last false

-- how many bytes it was fed
abbrev pub map_fed : LineMap → ℕ
map_fed lines = lines.fed

-- Memory was refused to it.
abbrev pub map_refused : LineMap → Bool
map_refused lines = lines.refused

-- It stands for these bytes: it was fed as many, and their lines end where it says; for none once memory was refused.
abbrev pub IsMapped : LineMap → List ℕ → Type 0
IsMapped lines bytes = (lines.refused ≡ false) × (length bytes ≡ lines.fed) × (line_ends bytes ≡ map_ends lines)
