use Rattle.std.proofs.Common.{ap}
use Rattle.op_trees.specs.Seen.{Seen}
use Rattle.jani_instance.specs.Prepared.{places_in, see_from}
use Rattle.jani_instance.proofs.Prepared.{prepared_from, prepared_put, prepared_whole}
use Rattle.jani_instance.proofs.prepare.giver.Goals as goal

pub returns : goal.returns
returns c =
    let one = c.args.one.now in
    prepared_whole (λ (s : Seen). record { element = one.element; location = one.location; value = s }) _ _ _ _
    (prepared_from _ _ _ _ _ (λ at. ap (λ p. see_from p at one.value) c.scope_at-scope.ensures)
    (prepared_put _ _ (places_in c.scope_at-scope.result) one.value c.in_ok-value.value c.in_ok-value.ensures.grows c.in_ok-value.ensures.stands))
