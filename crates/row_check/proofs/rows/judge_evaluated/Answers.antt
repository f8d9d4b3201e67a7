use Rattle.std.proofs.Common.{map, subst, sym, ap, ◌∙◌}
use Rattle.state_choices.specs.Grouped.{AreGroupsAt}
use Rattle.state_choices.specs.Views.{group_of}
use Rattle.row_check.proofs.Combined.{all_judged_at}
use Rattle.row_check.proofs.rows.judge_evaluated.Goals as goal

pub returns : goal.returns
returns g c =
    let p = g.S.Steps.process c.args.s.now in
    let s = c.args.state.now.values in
    let h = subst (AreGroupsAt p s) (sym (ap (map group_of) c.as_slice.ensures.value ∙ c.in_ok-groups.ensures)) c.requires.groups in
    all_judged_at p s _ h c.args.k c.args.index.now.numbers c.args.own.now c.judge_groups.result c.judge_groups.ensures
