-- What reading and writing do where the bytes are told, and what a failure shows.
use Rattle.std.specs.Prelude.{◌≡◌, ◌≢◌, ℕ, ◌+◌, ◌^◌, ◌-◌, ◌≤◌, min, List, [], length, take, Option, Some, None, IsSome}
use Rattle.std.specs.Io.KnownBytes.{Appends, prepend_known}

-- a count after one more: it stands still at the last value of its 64 bits
abbrev pub next_count : ℕ → ℕ
next_count count = min (count + 1) (2 ^ 64 - 1)

-- A count of faults rose, or stands at its last value.
abbrev pub HasFailed : ℕ → ℕ → Type 0
HasFailed before now = next_count before ≤ now

-- What was taken, where it is told, grew by some front of the text.
abbrev pub AppendsFront : Option (List ℕ) → Option (List ℕ) → List ℕ → Type 0
AppendsFront before after text = (n : ℕ) × (n ≤ length text) × Appends before after (take n text)

-- what is left under each name; none: the name is not on the shelf
abbrev pub Lefts : Type 0
Lefts = List ℕ → Option (List ℕ)

-- Nothing is told of what is left.
abbrev pub untold : Option Lefts
untold = None

-- What was left under the name is these bytes and then what is left now, and all other names keep theirs.
pub record TakesFront (before after : Lefts) (name bytes : List ℕ) : Type 0 where
  pub was : before name ≡ prepend_known bytes (after name)
  pub others : (other : List ℕ) → other ≢ name → after other ≡ before other

-- These bytes were taken from the front of what is left under the name, where that is told.
abbrev pub Takes : Option Lefts → Option Lefts → List ℕ → List ℕ → Type 0
Takes None after name bytes = Unit {0}
Takes (Some before) None name bytes = ⊥
Takes (Some before) (Some after) name bytes = TakesFront before after name bytes

-- Some bytes were taken.
abbrev pub TakesSome : Option Lefts → Option Lefts → List ℕ → Type 0
TakesSome before after name = (bytes : List ℕ) × Takes before after name bytes

-- No more than so many bytes were taken.
abbrev pub TakesAtMost : Option Lefts → Option Lefts → List ℕ → ℕ → Type 0
TakesAtMost before after name most = (bytes : List ℕ) × (length bytes ≤ most) × Takes before after name bytes

-- The name is on the shelf, where that is told.
abbrev pub IsOn : Option Lefts → List ℕ → Type 0
IsOn None name = Unit {0}
IsOn (Some left) name = IsSome (left name)

-- The name is on the shelf and nothing is left under it, where that is told.
abbrev pub IsSpent : Option Lefts → List ℕ → Type 0
IsSpent None name = Unit {0}
IsSpent (Some left) name = left name ≡ Some []
