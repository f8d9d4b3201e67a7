use Rattle.std.proofs.Common.{◌∙◌, sym, ap, map}
use Rattle.process_core.specs.Choices.{has_kind}
use Rattle.state_choices.specs.Views.{participants_of, sum_of}
use Rattle.state_choices.proofs.LeftOpen.{good_branches, good_narrow, no_kind}
use Rattle.state_choices.proofs.opening.outcome_of.Goals as goal

pub returns : goal.returns
returns c s =
    let rewards = map sum_of c.args.rewards.now in
    let rs = participants_of c.args.participants.now in (
      good_narrow rewards rs c.in_ok-kinds.ensures.0 c.in_ok-branches.ensures.0,
      good_branches rewards rs s c.in_ok-branches.branches
          (ap has_kind (sym c.in_ok-kinds.ensures.1) ∙ no_kind _ _ _ c.if-kinds.false c.if-kinds-2.false c.if-kinds-3.false) c.in_ok-branches.ensures.1,
    )
