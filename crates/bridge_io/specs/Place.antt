-- The line and the column of an offset, as editors count them: both from 1, the column in bytes. A line ends at
-- its line feed (byte 10), which is still of that line.
use Rattle.std.specs.Prelude.{◌≡◌, ℕ, ◌+◌, ◌==◌, List, length, take, count_by}
use Rattle.std.specs.List.{after_last}

-- 1 and the line feeds before the offset
abbrev pub line_at : List ℕ → ℕ → ℕ
line_at bytes offset = 1 + count_by (λ b. b == 10) (take offset bytes)

-- 1 and the bytes since the last of them
abbrev pub column_at : List ℕ → ℕ → ℕ
column_at bytes offset = 1 + length (after_last (λ b. b == 10) (take offset bytes))

-- The line and the column are those of the end of the bytes.
pub record IsEnd (line column : ℕ) (bytes : List ℕ) : Type 0 where
  pub line_is : line ≡ line_at bytes (length bytes)
  pub column_is : column ≡ column_at bytes (length bytes)
