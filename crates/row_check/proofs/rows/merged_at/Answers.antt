use Rattle.std.proofs.Common.{map, option_copied, subst, ap, ◌∙◌}
use Rattle.state_choices.specs.Views.{sum_of}
use Rattle.row_check.specs.Walked.{MergesOne, bare_branch}
use Rattle.row_check.proofs.Bare.{merges_alike}
use Rattle.row_check.proofs.rows.merged_at.Goals as goal

pub returns-in-Ok : goal.returns-in-Ok
returns-in-Ok c = λ ss x.
    let s = c.args.state.now.values in
    let label = option_copied c.args.choice.now.label in
    let e = c.in-Ok.ensures ∙ ap (map (bare_branch s)) c.as_slice.ensures in
    merges_alike s (map sum_of c.args.choice.now.rewards.now) ss label c.args.branches.now c.merged_choice.result
    (subst (λ l. MergesOne ss (record { label = label; branches = l }) c.merged_choice.result) e (c.merged_choice.ensures ss x))
