use Rattle.std.proofs.Common.{◌≡◌, ◌∙◌, ap, map, List, [], ◌∷◌}
use Rattle.std.proofs.lemmas.List.Concat.{flat_map_single}
use Rattle.state_choices.specs.declared.data.Update.{Update}
use Rattle.process_core.specs.Answers.{only_wide}
use Rattle.state_choices.specs.Open.{way_of, weighed}
use Rattle.state_choices.specs.declared.open.OpenBranch.{OpenBranch}
use Rattle.state_choices.specs.Views.{update_of}
use Rattle.state_choices.proofs.Gathered.{any_here}
use Rattle.state_choices.proofs.Gathering.{gathered_none, gathered_more, gathered_all}
use Rattle.state_choices.proofs.Answering.{narrow_then, handed_on}
use Rattle.state_choices.proofs.Loops.{update_wide, update_ways}
use Rattle.state_choices.proofs.branches.branches_alone.Goals as goal

pub returns-in_err-add_branch : goal.returns-in_err-add_branch
returns-in_err-add_branch c =
    let us = c.args.updates.now in
    let Is = λ (bs : List OpenBranch). map way_of bs ≡ map (λ (u : Update). weighed (update_of u ∷ [])) us in
    handed_on Is _ _ c.in_err-add_branch.field-0.0 c.from_residual-in_err-add_branch.result c.from_residual-in_err-add_branch.ensures.1
    (λ w. any_here update_wide us c.loop-update.update-index c.update-item.result c.loop-update-test.true c.update-item.is w)
    c.in_err-add_branch.ensures

pub loop-update-init : goal.loop-update-init
loop-update-init c =
    gathered_none update_wide update_ways c.args.updates.now [] (map way_of c.in_ok-all.all) (ap (map way_of) c.in_ok-all.ensures)

pub loop-update-preserved : goal.loop-update-preserved
loop-update-preserved c =
    gathered_more update_wide update_ways c.args.updates.now [] c.loop-update.update-index c.update-item.result (map way_of c.loop-update.all)
    (map way_of c.add_branch.new.all) c.loop-update-test.true c.update-item.is (narrow_then _ c.in_ok-add_branch.ensures.0) c.in_ok-add_branch.ensures.1 c.loop-update.invariant

pub returns : goal.returns
returns c =
    let us = c.args.updates.now in
    let all = gathered_all update_wide update_ways us [] c.loop-update.update-index (map way_of c.loop-update.all) c.loop-update-test.false c.loop-update.invariant in
    (ap only_wide all.0, all.1 ∙ flat_map_single (λ (u : Update). weighed (update_of u ∷ [])) us)
