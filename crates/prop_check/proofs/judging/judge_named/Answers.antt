use Rattle.std.specs.Prelude.{None}
use Rattle.std.specs.List.{flat_map}
use Rattle.std.proofs.Common.{◌∙◌, ap, sym}
use Rattle.name_rules.specs.Least.{soonest}
use Rattle.prop_trees.specs.PrismFaults.{part_faults, size_faults, type_faults}
use Rattle.prop_check.proofs.Phases.{first_fault, past_first}
use Rattle.prop_check.proofs.judging.judge_named.Goals as goal

pub returns-in-Some : goal.returns-in-Some
returns-in-Some c = λ ps h.
    let file = c.args.scope.now.file in
    sym (first_fault (size_faults file ps) (type_faults file ps) c.in-Some.fault (sym (c.judge_sizes.ensures ps h) ∙ c.in-Some.is))

pub returns-in-None : goal.returns-in-None
returns-in-None c = λ ps h.
    let file = c.args.scope.now.file in
    c.judge_types.ensures
    ∙ ap (λ xs. soonest None (flat_map (part_faults file) xs)) h
    ∙ ap (soonest None) (sym (past_first (size_faults file ps) (type_faults file ps) (sym (c.judge_sizes.ensures ps h) ∙ c.in-None.is)))
