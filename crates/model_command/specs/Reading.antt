-- Why files can't be read whole one after another.
-- (This project's own rule.)
use Rattle.std.specs.Prelude.{ℕ, List, Option}
use Rattle.bridge_io.specs.Outside.{HasFailed, Lefts}
use Rattle.bridge_io.specs.ReadFail.{IsTooLong}
use Rattle.bridge_io.specs.declared.transfer.ReadFail.{ReadFail}
use Rattle.bridge_io.specs.declared.transfer.ReadFail.TheVariants.{Memory, Fault, TooLong}
use Rattle.model_command.specs.Run.{ComesTo, ShelfSides}
use Rattle.model_command.specs.declared.reading.Halt.{Halt}

-- at the file of this name, once those before it are read
abbrev pub IsHaltAt : ShelfSides → Option Lefts → List ℕ → ReadFail → Type 0
IsHaltAt shelf mid name (Memory e) = Unit {0}
IsHaltAt shelf mid name Fault = HasFailed shelf.faults shelf.faults_after × (shelf.steady name → ⊥)
IsHaltAt shelf mid name (TooLong place) = IsTooLong mid shelf.left_after name 16777216 (TooLong place)

abbrev pub IsHalt : ShelfSides → List (List ℕ) → Halt → Type 0
IsHalt shelf names h = (mid : Option Lefts) × ComesTo shelf.left mid names h.name.now × IsHaltAt shelf mid h.name.now h.fail
