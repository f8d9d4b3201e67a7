use Rattle.std.specs.Prelude.{◌≡◌, map, drop}
use Rattle.std.specs.List.{flat_map}
use Rattle.prism_tree.specs.Syntax.{module_of}
use Rattle.name_rules.specs.Least.{soonest}
use Rattle.prism_check.specs.NameFaults.{own_starts}
use Rattle.prism_check.proofs.starts.judge_modules.Given as goal

abbrev pub invariant-loop-entry : goal.invariant-loop-entry
invariant-loop-entry l =
    soonest l.best (flat_map own_starts (map module_of (drop l.entry-index l.all))) ≡ soonest l.fn.before (flat_map own_starts (map module_of l.all))
