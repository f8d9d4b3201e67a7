use Rattle.std.proofs.Common.{◌∙◌, ap, map, Vec, Global}
use Rattle.std.specs.Borrow.{Bor}
use Rattle.state_choices.specs.declared.data.Update.{Update}
use Rattle.state_choices.specs.Open.{way_of}
use Rattle.state_choices.specs.Views.{updates_of}
use Rattle.state_choices.proofs.Answering.{answer_as}
use Rattle.state_choices.proofs.Loops.{wide_ways, branches_of_ways}
use Rattle.state_choices.proofs.branches.branches_together.Goals as goal

pub returns : goal.returns
returns c =
    let ws = c.as_slice.result.now in
    let e = ap (map (λ (w : Vec (Bor Update) Global). updates_of w.items)) c.as_slice.ensures.value ∙ c.in_ok-ways.ensures in
    answer_as (map way_of) _ _ _ _ c.branches_of.result (wide_ways ws _ e) (branches_of_ways ws _ e) c.branches_of.ensures
