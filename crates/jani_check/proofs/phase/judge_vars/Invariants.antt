use Rattle.std.specs.Prelude.{◌≡◌, map, drop}
use Rattle.std.specs.List.{flat_map}
use Rattle.name_rules.specs.Least.{soonest}
use Rattle.jani_tree.specs.Syntax.{var_of}
use Rattle.jani_check.proofs.phase.judge_vars.Given as goal

abbrev pub invariant-loop-var : goal.invariant-loop-var
invariant-loop-var g l =
    soonest l.best (flat_map g.P.Phase.of_var (map var_of (drop l.var-index l.vars))) ≡ soonest l.fn.before (flat_map g.P.Phase.of_var (map var_of l.vars))
