-- What is known where more is left than may be read.
use Rattle.std.specs.Prelude.{◌≡◌, ℕ, ◌+◌, List, length, Option}
use Rattle.bridge_io.specs.Outside.{Lefts, Takes, IsOn}
use Rattle.bridge_io.specs.Place.{line_at, column_at}
use Rattle.bridge_io.specs.declared.transfer.ReadFail.{ReadFail}
use Rattle.bridge_io.specs.declared.transfer.ReadFail.TheVariants.{Memory, Fault, TooLong}

-- Just one byte more than the limit was taken, and the place is that of the offset `limit` among the bytes taken.
abbrev pub IsTooLong : Option Lefts → Option Lefts → List ℕ → ℕ → ReadFail → Type 0
IsTooLong before after name limit (TooLong place) =
    (bytes : List ℕ) × (length bytes ≡ limit + 1) × Takes before after name bytes × IsOn after name
    × (place.line ≡ line_at bytes limit) × (place.column ≡ column_at bytes limit)
IsTooLong before after name limit (Memory e) = Unit {0}
IsTooLong before after name limit Fault = Unit {0}
