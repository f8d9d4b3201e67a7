use Rattle.std.proofs.Common.{map, subst, ap, ◌∙◌, refl}
use Rattle.process_core.specs.Answers.{FailsBy}
use Rattle.process_core.specs.Bounds.{IsWide, IsTooMany, excess}
use Rattle.state_choices.specs.Groups.{of_groups}
use Rattle.state_choices.specs.Open.{open_choice}
use Rattle.state_choices.specs.Views.{group_of}
use Rattle.row_check.specs.declared.data.Verdict.TheVariants.{TooMany, Wide}
use Rattle.row_check.proofs.Combined.{excessive, narrow_ones}
use Rattle.row_check.proofs.rows.judge_groups.Goals as goal

pub returns-in-Ok : goal.returns-in-Ok
returns-in-Ok c =
    let s = c.args.state.now.values in
    let told = c.in-Ok.ensures s in
    narrow_ones c.args.k s (of_groups (map group_of c.args.groups.now)) c.args.index.now.numbers c.args.own.now told.0 (map (open_choice s) c.as_slice.result.now) (ap (map (open_choice s)) c.as_slice.ensures ∙ told.1)
    c.judge_choices.result c.judge_choices.ensures

pub returns-in-Err-Wide : goal.returns-in-Err-Wide
returns-in-Err-Wide c =
    let s = c.args.state.now.values in
    let cs = of_groups (map group_of c.args.groups.now) in
    excessive c.args.k s cs c.args.index.now.numbers c.args.own.now IsWide (subst (FailsBy (excess cs)) c.in-Err-Wide.field-0-is (c.in-Err-Wide.ensures s)) (Wide c.args.k) refl

pub returns-in-Err-TooMany : goal.returns-in-Err-TooMany
returns-in-Err-TooMany c =
    let s = c.args.state.now.values in
    let cs = of_groups (map group_of c.args.groups.now) in
    excessive c.args.k s cs c.args.index.now.numbers c.args.own.now IsTooMany (subst (FailsBy (excess cs)) c.in-Err-TooMany.field-0-is (c.in-Err-TooMany.ensures s)) (TooMany c.args.k) refl
