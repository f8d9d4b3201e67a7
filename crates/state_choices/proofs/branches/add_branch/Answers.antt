use Rattle.std.proofs.Common.{◌≡◌, ◌∙◌, ap, map, [], ◌∷◌, ◌++◌}
use Rattle.std.proofs.lemmas.List.{map-append}
use Rattle.state_choices.specs.Open.{way_of, weighed}
use Rattle.state_choices.specs.Views.{updates_of}
use Rattle.state_choices.proofs.Answering.{handed_on}
use Rattle.state_choices.proofs.branches.add_branch.Goals as goal

pub returns-in_err-branch : goal.returns-in_err-branch
returns-in_err-branch c =
    let old = map way_of c.args.all.now in
    let Is = λ (u : Unit {0}). old ≡ old ++ weighed (updates_of c.args.updates.now) ∷ [] in
    handed_on Is _ _ c.in_err-branch.field-0.0 c.from_residual.result c.from_residual.ensures.1 (λ w. w) c.in_err-branch.ensures

pub returns : goal.returns
returns c =
    let old = c.args.all.now in (
      c.in_ok-branch.ensures.0,
      ap (map way_of) c.in_ok-push.ensures.ok ∙ map-append way_of old (c.in_ok-branch.branch ∷ []) ∙ ap (λ x. map way_of old ++ x ∷ []) c.in_ok-branch.ensures.1,
    )
