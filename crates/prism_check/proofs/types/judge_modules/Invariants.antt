use Rattle.std.specs.Prelude.{◌≡◌, map, drop}
use Rattle.prism_tree.specs.Syntax.{file_of, module_of}
use Rattle.name_rules.specs.Least.{soonest}
use Rattle.prism_check.specs.TypeFaults.{numbered_faults}
use Rattle.prism_check.proofs.types.judge_modules.Given as goal

abbrev pub invariant-loop-number : goal.invariant-loop-number
invariant-loop-number l =
    soonest l.best (numbered_faults (file_of l.file) l.number (map module_of (drop l.number l.all)))
    ≡ soonest l.fn.before (numbered_faults (file_of l.file) 0 (map module_of l.all))
