use Rattle.std.specs.Prelude.{◌≡◌, map, drop}
use Rattle.std.specs.List.{flat_map}
use Rattle.prism_tree.specs.Syntax.{module_of}
use Rattle.name_rules.specs.Least.{soonest}
use Rattle.prism_check.specs.Tables.{copy_faults_by, module_under}
use Rattle.prism_check.proofs.copies.judge_copies.Given as goal

abbrev pub invariant-loop-entry : goal.invariant-loop-entry
invariant-loop-entry l =
    soonest l.best (flat_map (copy_faults_by (module_under l.modules)) (map module_of (drop l.entry-index l.all)))
    ≡ soonest l.fn.before (flat_map (copy_faults_by (module_under l.modules)) (map module_of l.all))
