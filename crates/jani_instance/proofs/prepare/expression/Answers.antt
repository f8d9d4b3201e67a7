use Rattle.std.proofs.Common.{None, Some, ap, sym}
use Rattle.std.specs.Option.{option_map}
use Rattle.jani_instance.specs.Prepared.{places_in, see_from}
use Rattle.jani_instance.proofs.Prepared.{prepared_from, prepared_none, prepared_put, prepared_whole}
use Rattle.jani_instance.proofs.prepare.expression.Goals as goal

pub returns-in-None : goal.returns-in-None
returns-in-None c = prepared_from _ _ _ _ _ (λ at. ap (option_map (see_from (places_in c.args.scope.now) at)) (sym c.in-None.is)) (prepared_none _ None)

pub returns-in_ok-put-in-Some : goal.returns-in_ok-put-in-Some
returns-in_ok-put-in-Some c =
    prepared_from _ _ _ _ _ (λ at. ap (option_map (see_from (places_in c.args.scope.now) at)) (sym c.in-Some.is))
    (prepared_whole Some _ _ _ _ (prepared_put _ _ (places_in c.args.scope.now) c.in-Some.e c.in_ok-put-in-Some.field-0 c.in_ok-put-in-Some.ensures.grows c.in_ok-put-in-Some.ensures.stands))
