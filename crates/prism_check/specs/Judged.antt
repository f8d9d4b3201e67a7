-- What the names of a file were judged to be.
use Rattle.std.specs.Prelude.{◌≡◌, [], Some, None}
use Rattle.prism_tree.specs.Syntax.{File}
use Rattle.prism_names.specs.Places.{IsPlaceOrder}
use Rattle.prism_check.specs.declared.names.Names.{Names}
use Rattle.prism_check.specs.declared.names.Names.TheVariants.{Faulty, Ordered}
use Rattle.prism_check.specs.declared.judge.Verdict.{Verdict}
use Rattle.prism_check.specs.declared.judge.Verdict.TheVariants as V
use Rattle.name_rules.specs.Least.{soonest, IsLeast}
use Rattle.prism_check.specs.NameFaults.{name_faults}
use Rattle.prism_check.specs.SizeFaults.{command_count}
use Rattle.prism_check.specs.Faults.{faults}

-- this is the least of their faults, or they have none and the formulas stand in this order
abbrev pub AreJudged : File → Names → Type 0
AreJudged file (Faulty f) = soonest None (name_faults file) ≡ Some f
AreJudged file (Ordered order) = (name_faults file ≡ []) × IsPlaceOrder file order.items

-- this is the least fault of the file; or it has none, its formulas stand in this order, and it has so many commands
abbrev pub IsVerdict : File → Verdict → Type 0
IsVerdict file (V.Faulty f) = IsLeast (faults file) f
IsVerdict file (V.Sound order commands) = (faults file ≡ []) × IsPlaceOrder file order.items × (commands ≡ command_count file)
