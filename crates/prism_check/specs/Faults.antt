-- All faults of a PRISM file of the first kind that it has any of: those of names, then those of size, then those of types.
use Rattle.std.specs.Prelude.{List, []}
use Rattle.bridge_io.specs.declared.reason.Fault.{Fault}
use Rattle.name_rules.specs.Least.{or_else}
use Rattle.prism_tree.specs.Syntax.{File}
use Rattle.prism_check.specs.NameFaults.{name_faults}
use Rattle.prism_check.specs.SizeFaults.{size_faults}
use Rattle.prism_check.specs.TypeFaults.{type_faults}

abbrev pub faults : File → List Fault
faults file = or_else (name_faults file) (or_else (size_faults file) (type_faults file))
