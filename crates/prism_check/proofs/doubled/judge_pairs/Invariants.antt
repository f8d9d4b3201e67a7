use Rattle.std.specs.Prelude.{◌≡◌, map, drop}
use Rattle.std.specs.List.{flat_map}
use Rattle.prism_tree.specs.Syntax.{module_of}
use Rattle.name_rules.specs.Least.{soonest}
use Rattle.prism_check.specs.NameFaults.{doubled_pairs}
use Rattle.prism_check.proofs.doubled.judge_pairs.Given as goal

abbrev pub invariant-loop-entry : goal.invariant-loop-entry
invariant-loop-entry l =
    soonest l.best (flat_map doubled_pairs (map module_of (drop l.entry-index l.modules))) ≡ soonest l.fn.before (flat_map doubled_pairs (map module_of l.modules))
