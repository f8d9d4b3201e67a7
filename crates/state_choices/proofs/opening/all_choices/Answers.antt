use Rattle.std.proofs.Common.{◌≡◌, ◌∙◌, sym, ap, map, List, []}
use Rattle.std.specs.List.{list_any}
use Rattle.process_core.specs.Choices.{choices}
use Rattle.process_core.specs.Bounds.{is_wide_rest}
use Rattle.process_core.specs.Answers.{only_wide}
use Rattle.state_choices.specs.Open.{open_choice}
use Rattle.state_choices.specs.declared.open.OpenChoice.{OpenChoice}
use Rattle.state_choices.specs.declared.data.Group.{Group}
use Rattle.state_choices.specs.Views.{group_of}
use Rattle.state_choices.specs.Groups.{of_group, of_groups}
use Rattle.state_choices.proofs.Gathered.{any_here}
use Rattle.state_choices.proofs.Gathering.{gathered_none, gathered_more, gathered_all}
use Rattle.state_choices.proofs.Answering.{narrow_then, handed_on}
use Rattle.state_choices.proofs.Loops.{wide_groups, choices_of_groups}
use Rattle.state_choices.proofs.opening.all_choices.Goals as goal

pub returns-in_err-add_choices : goal.returns-in_err-add_choices
returns-in_err-add_choices c s =
    let gs = c.args.groups.now in
    let Is = λ (cs : List OpenChoice). map (open_choice s) cs ≡ choices s (of_groups (map group_of gs)) in
    handed_on Is _ _ c.in_err-add_choices.field-0.0 c.from_residual-in_err-add_choices.result c.from_residual-in_err-add_choices.ensures.1
    (λ w. sym (wide_groups gs) ∙ any_here (λ (g : Group). list_any is_wide_rest (of_group (group_of g))) gs c.loop-group.group-index c.group-item.result c.loop-group-test.true c.group-item.is w)
    (c.in_err-add_choices.ensures s)

pub loop-group-init : goal.loop-group-init
loop-group-init c s =
    gathered_none (λ (g : Group). list_any is_wide_rest (of_group (group_of g))) (λ (g : Group). choices s (of_group (group_of g))) c.args.groups.now [] (map (open_choice s) c.in_ok-all.all)
    (ap (map (open_choice s)) c.in_ok-all.ensures)

pub loop-group-preserved : goal.loop-group-preserved
loop-group-preserved c s =
    gathered_more (λ (g : Group). list_any is_wide_rest (of_group (group_of g))) (λ (g : Group). choices s (of_group (group_of g))) c.args.groups.now [] c.loop-group.group-index
    c.group-item.result (map (open_choice s) c.loop-group.all) (map (open_choice s) c.add_choices.new.all) c.loop-group-test.true c.group-item.is (narrow_then _ (c.in_ok-add_choices.ensures s).0)
    (c.in_ok-add_choices.ensures s).1 (c.loop-group.invariant s)

pub returns : goal.returns
returns c s =
    let gs = c.args.groups.now in
    let all =
    gathered_all (λ (g : Group). list_any is_wide_rest (of_group (group_of g))) (λ (g : Group). choices s (of_group (group_of g))) gs [] c.loop-group.group-index
    (map (open_choice s) c.loop-group.all) c.loop-group-test.false (c.loop-group.invariant s) in
    (ap only_wide (sym (wide_groups gs) ∙ all.0), all.1 ∙ choices_of_groups s gs)
