use Rattle.std.proofs.Common.{◌∙◌, ap, length, map}
use Rattle.instance_start.specs.Columns.{constant_of}
use Rattle.instance_start.specs.Given.{misfit}
use Rattle.constant_folding.specs.Constants.{const_of, described}
use Rattle.constant_folding.specs.Unfit.{place_within}
use Rattle.constant_folding.proofs.Unfit.{unfit_within}
use Rattle.constant_folding.proofs.given.unfit.Goals as goal

pub returns : goal.returns
returns g c =
    let given = c.args.given.now in
    c.place_within.ensures
    ∙ ap (λ o. place_within o (length given)) c.in_ok-first.ensures
    ∙ ap (λ vs. place_within (misfit (map constant_of vs) given) (length given)) c.as_slice.ensures.value
    ∙ ap (λ cs. place_within (misfit cs given) (length given)) c.in_ok-described.ensures
    ∙ unfit_within (map described (map const_of c.args.constants.now)) given
