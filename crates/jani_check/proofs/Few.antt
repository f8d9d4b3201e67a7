-- One assignment is not a second one.
use Rattle.std.specs.Prelude.{◌<◌, List, [], ◌∷◌, map, length, Option}
use Rattle.std.proofs.Common.{◌≡◌, refl, arith}
use Rattle.bridge_io.specs.declared.reason.Fault.{Fault}
use Rattle.name_rules.specs.Least.{soonest}
use Rattle.jani_tree.specs.declared.syntax.JaniWrite.{JaniWrite}
use Rattle.jani_tree.specs.Syntax.{write_of}
use Rattle.jani_check.specs.TypeFaults.{repeated}

pub few_writes : (ws : List JaniWrite) (best : Option Fault) → length ws < 2 → best ≡ soonest best (repeated (map write_of ws))
few_writes [] best h = refl
few_writes (w ∷ []) best h = refl
few_writes (w ∷ v ∷ ws) best h = absurd (omega (arith, h))
