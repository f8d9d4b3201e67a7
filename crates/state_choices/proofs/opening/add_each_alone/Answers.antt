use Rattle.std.proofs.Common.{◌≡◌, ◌++◌, ap, map}
use Rattle.std.specs.List.{flat_map}
use Rattle.process_core.specs.Answers.{only_wide}
use Rattle.state_choices.specs.Open.{open_choice}
use Rattle.state_choices.proofs.Gathered.{any_here}
use Rattle.state_choices.proofs.Gathering.{gathered_more, gathered_all}
use Rattle.state_choices.proofs.Answering.{narrow_then, handed_on}
use Rattle.state_choices.proofs.Loops.{alone_wide, alone_choice}
use Rattle.state_choices.proofs.opening.add_each_alone.Goals as goal

pub returns-in_err-add_choice : goal.returns-in_err-add_choice
returns-in_err-add_choice c s =
    let g = c.args.group.now in
    let Is = λ (u : Unit {0}). map (open_choice s) c.add_choice.new.all ≡ map (open_choice s) c.args.all.now ++ flat_map (alone_choice s g) c.args.list.now in
    handed_on Is _ _ c.in_err-add_choice.field-0.0 c.from_residual.result c.from_residual.ensures.1
    (λ w. any_here (alone_wide g) c.args.list.now c.loop-command.command-index c.command-item.result c.loop-command-test.true c.command-item.is w)
    (c.in_err-add_choice.ensures s)

pub loop-command-preserved : goal.loop-command-preserved
loop-command-preserved c s =
    let g = c.args.group.now in
    gathered_more (alone_wide g) (alone_choice s g) c.args.list.now (map (open_choice s) c.args.all.now) c.loop-command.command-index c.command-item.result
    (map (open_choice s) c.loop-command.all) (map (open_choice s) c.add_choice.new.all) c.loop-command-test.true c.command-item.is
    (narrow_then _ (c.in_ok-add_choice.ensures s).0) (c.in_ok-add_choice.ensures s).1 (c.loop-command.invariant s)

pub returns : goal.returns
returns c s =
    let g = c.args.group.now in
    let all = gathered_all (alone_wide g) (alone_choice s g) c.args.list.now (map (open_choice s) c.args.all.now) c.loop-command.command-index (map (open_choice s) c.loop-command.all) c.loop-command-test.false (c.loop-command.invariant s) in
    (ap only_wide all.0, all.1)
