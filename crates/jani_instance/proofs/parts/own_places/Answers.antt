use Rattle.std.proofs.Common.{ap}
use Rattle.std.proofs.lemmas.List.{get_or_default}
use Rattle.std.specs.Option.{option_or}
use Rattle.jani_instance.specs.Parts.{place_under}
use Rattle.jani_instance.proofs.Owning.{place_next}
use Rattle.jani_instance.proofs.parts.own_places.Goals as goal

pub loop-j-init : goal.loop-j-init
loop-j-init c = λ x. ap (λ f. option_or (f x) (place_under x c.args.these.now)) c.new-places.ensures

pub loop-j-preserved : goal.loop-j-preserved
loop-j-preserved c = λ x.
    place_next x c.args.these.now c.loop-j.j _ _ _ _ c.loop-j-test.true (get_or_default c.args.these.now c.loop-j.j _ _ c.loop-j-test.true) (c.in_ok-put_own.ensures x) (c.loop-j.invariant x)
