use Rattle.std.specs.Prelude.{◌≡◌, map, drop}
use Rattle.std.specs.List.{flat_map}
use Rattle.prism_tree.specs.Syntax.{var_of}
use Rattle.name_rules.specs.Least.{soonest}
use Rattle.prism_check.specs.NameFaults.{own_start}
use Rattle.prism_check.proofs.starts.judge_vars.Given as goal

abbrev pub invariant-loop-var : goal.invariant-loop-var
invariant-loop-var l =
    soonest l.best (flat_map own_start (map var_of (drop l.var-index l.vars))) ≡ soonest l.fn.before (flat_map own_start (map var_of l.vars))
