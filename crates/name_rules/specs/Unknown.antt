-- Names that are not declared.
use Rattle.std.specs.Prelude.{List, Bool, not}
use Rattle.bridge_io.specs.declared.reason.Named.{Named}
use Rattle.bridge_io.specs.declared.reason.Reason.TheVariants.{Unknown}
use Rattle.bridge_io.specs.declared.reason.Fault.{Fault}
use Rattle.name_rules.specs.Least.{fault_if}
use Rattle.name_rules.specs.Names.{Name}

-- the fault of a name that is not known
abbrev pub unless_known : (Name → Bool) → Named → List Fault
unless_known known n = fault_if (not (known n.name)) n.at Unknown
