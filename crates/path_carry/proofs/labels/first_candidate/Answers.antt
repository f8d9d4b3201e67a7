use Rattle.std.proofs.Common.{ap, sym, ◌∙◌, refl, Some}
use Rattle.carry_maps.specs.Maps.{candidates}
use Rattle.path_carry.specs.Carried.{first_of}
use Rattle.path_carry.proofs.Firsts.{first_found, first_missing}
use Rattle.path_carry.proofs.labels.first_candidate.Goals as goal

pub returns-in-Some-first_labelled : goal.returns-in-Some-first_labelled
returns-in-Some-first_labelled c =
    let ps = c.args.index.now.pairs.now in
    first_found ps (Some c.in-Some.name) _ refl c.in-Some-first_labelled.ensures ∙ ap (λ l. first_of (candidates ps l)) (sym c.in-Some.is)

pub returns-in-None-first_labelled : goal.returns-in-None-first_labelled
returns-in-None-first_labelled c =
    let ps = c.args.index.now.pairs.now in
    first_missing ps (Some c.in-Some.name) refl c.in-None-first_labelled.ensures ∙ ap (λ l. first_of (candidates ps l)) (sym c.in-Some.is)
