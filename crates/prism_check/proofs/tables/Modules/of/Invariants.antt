use Rattle.std.specs.Prelude.{◌≡◌, ℕ, List, drop}
use Rattle.std.specs.Option.{option_or}
use Rattle.prism_check.specs.Tables.{named_module, module_at}
use Rattle.prism_check.proofs.tables.Modules.of.Given as goal

abbrev pub invariant-loop-entry : goal.invariant-loop-entry
invariant-loop-entry l = (x : List ℕ) → option_or (module_at l.first x) (named_module (drop l.entry-index l.modules) x) ≡ named_module l.modules x
