use Rattle.std.proofs.Common.{map, ◌∙◌}
use Rattle.state_choices.specs.Open.{open_choice}
use Rattle.row_check.proofs.Chosen.{judged_merged}
use Rattle.row_check.proofs.MergingSteps.{bad_ones}
use Rattle.row_check.proofs.rows.judge_choices.Goals as goal

pub returns-in-Ok : goal.returns-in-Ok
returns-in-Ok c =
    judged_merged c.merging_laws.ensures c.args.index.now.numbers c.args.k (map (open_choice c.args.state.now.values) c.args.choices.now) c.args.own.now c.has_bad-bad.result (c.has_bad-bad.ensures ∙ bad_ones c.args.state.now.values c.args.choices.now) c.in-Ok.model c.in-Ok.ensures
    c.judge_merged.result c.judge_merged.ensures
