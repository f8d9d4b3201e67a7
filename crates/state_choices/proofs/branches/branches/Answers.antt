use Rattle.std.proofs.Common.{◌≡◌, ◌∙◌, ◌∷◌, [], sym, ap, map}
use Rattle.std.specs.Borrow.{Bor}
use Rattle.std.specs.List.{list_any}
use Rattle.process_core.specs.Choices.{ways}
use Rattle.process_core.specs.Product.{one_of_each}
use Rattle.state_choices.specs.Open.{way_of, weighed}
use Rattle.state_choices.specs.declared.data.Command.{Command}
use Rattle.state_choices.specs.Counted.{is_wide_way}
use Rattle.state_choices.specs.Views.{participants_of, update_of}
use Rattle.state_choices.proofs.Answering.{answer_as}
use Rattle.state_choices.proofs.Gathered.{single}
use Rattle.state_choices.proofs.Loops.{wide_alone, branches_alone}
use Rattle.state_choices.proofs.branches.branches.Goals as goal

pub returns-then-participants-eq1 : goal.returns-then-participants-eq1
returns-then-participants-eq1 c =
    let us = c.as_slice.result.now in
    let e : one_of_each (map update_of us ∷ []) ≡ ways (participants_of c.args.participants.now) =
    ap (λ us. one_of_each (map update_of us ∷ [])) (c.as_slice.ensures ∙ ap (λ (p : Bor Command). p.now.updates) (sym c.index-participants-0.is))
    ∙ sym (ap (λ ps. ways (participants_of ps)) (single c.args.participants.now c.index-participants-0.result c.if-participants-eq1.true c.index-participants-0.is)) in
    answer_as (map way_of) _ _ _ _ c.branches_alone.result (wide_alone us ∙ ap (list_any is_wide_way) e)
    (branches_alone us ∙ ap (map weighed) e) c.branches_alone.ensures
