use Rattle.std.proofs.Common.{◌≡◌, ◌∙◌, sym, ap, map, List, Vec, Global, [], ◌∷◌, ◌++◌}
use Rattle.std.specs.Borrow.{Bor}
use Rattle.std.proofs.lemmas.List.Concat.{flat_map_single}
use Rattle.state_choices.specs.declared.data.Update.{Update}
use Rattle.process_core.specs.Answers.{only_wide}
use Rattle.state_choices.specs.Open.{way_of, weighed}
use Rattle.state_choices.specs.declared.open.OpenBranch.{OpenBranch}
use Rattle.state_choices.specs.Views.{updates_of}
use Rattle.state_choices.proofs.Gathered.{any_here}
use Rattle.state_choices.proofs.Gathering.{gathered_none, gathered_more, gathered_all}
use Rattle.state_choices.proofs.Answering.{narrow_then, handed_on}
use Rattle.state_choices.proofs.Loops.{wide_updates, way_wide, way_ways}
use Rattle.state_choices.proofs.branches.branches_of.Goals as goal

pub returns-in_err-add_branch : goal.returns-in_err-add_branch
returns-in_err-add_branch c =
    let ws = c.args.ways.now in
    let Is = λ (bs : List OpenBranch). map way_of bs ≡ map (λ (w : Vec (Bor Update) Global). weighed (updates_of w.items)) ws in
    handed_on Is _ _ c.in_err-add_branch.field-0.0 c.from_residual-in_err-add_branch.result c.from_residual-in_err-add_branch.ensures.1
    (λ w. any_here way_wide ws c.loop-way.way-index c.way-item.result c.loop-way-test.true c.way-item.is (ap wide_updates (sym c.as_slice.ensures.value) ∙ w))
    c.in_err-add_branch.ensures

pub loop-way-init : goal.loop-way-init
loop-way-init c =
    gathered_none way_wide way_ways c.args.ways.now [] (map way_of c.in_ok-all.all) (ap (map way_of) c.in_ok-all.ensures)

pub loop-way-preserved : goal.loop-way-preserved
loop-way-preserved c =
    let so_far = c.loop-way.all in
    gathered_more way_wide way_ways c.args.ways.now [] c.loop-way.way-index c.way-item.result (map way_of so_far) (map way_of c.add_branch.new.all)
    c.loop-way-test.true c.way-item.is (ap wide_updates (sym c.as_slice.ensures.value) ∙ narrow_then _ c.in_ok-add_branch.ensures.0)
    (c.in_ok-add_branch.ensures.1 ∙ ap (λ us. map way_of so_far ++ weighed (updates_of us) ∷ []) c.as_slice.ensures.value)
    c.loop-way.invariant

pub returns : goal.returns
returns c =
    let ws = c.args.ways.now in
    let all = gathered_all way_wide way_ways ws [] c.loop-way.way-index (map way_of c.loop-way.all) c.loop-way-test.false c.loop-way.invariant in
    (ap only_wide all.0, all.1 ∙ flat_map_single (λ (w : Vec (Bor Update) Global). weighed (updates_of w.items)) ws)
