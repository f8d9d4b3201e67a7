-- Why there is no tree.
use Rattle.std.specs.Prelude.{List}
use Rattle.bridge_io.specs.declared.reason.Fault.{Fault}
use Rattle.bridge_io.specs.declared.reason.Refused.{Refused}
use Rattle.bridge_io.specs.declared.reason.Refused.TheVariants.{Memory, At}
use Rattle.name_rules.specs.Least.{IsLeast}

-- Memory was refused, or this is the least of the faults.
abbrev pub FailsFor : List Fault → Refused → Type 0
FailsFor fs (Memory e) = Unit {0}
FailsFor fs (At f) = IsLeast fs f
