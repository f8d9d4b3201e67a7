-- What a feeder is fed from a shelf.
use Rattle.std.specs.Prelude.{◌≡◌, ℕ, ◌++◌, List, length, Option}
use Rattle.bridge_io.specs.Outside.{Lefts, Takes}

-- These bytes were taken from the front of what was left under the name, and the feeder was fed them: it stands for each list that it stood for, and
-- these bytes behind it.
pub record IsFed (before after : Option Lefts) (name : List ℕ) (stood stands : List ℕ → Type 0) (bytes : List ℕ) : Type 0 where
  pub taken : Takes before after name bytes
  pub fed : (seen : List ℕ) → stood seen → stands (seen ++ bytes)

-- One list of so many bytes was taken and fed.
abbrev pub IsGiven : Option Lefts → Option Lefts → List ℕ → (List ℕ → Type 0) → (List ℕ → Type 0) → ℕ → Type 0
IsGiven before after name stood stands count = (bytes : List ℕ) × (length bytes ≡ count) × IsFed before after name stood stands bytes
