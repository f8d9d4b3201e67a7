use Rattle.std.proofs.Common.{ap, map}
use Rattle.expr_store.specs.Views.{nodes}
use Rattle.jani_instance.specs.Prepared.{places_of, see_from}
use Rattle.jani_instance.specs.Shapes.{located_as}
use Rattle.jani_instance.proofs.Prepared.{prepared_begin, prepared_more, prepared_all, prepared_from}
use Rattle.jani_instance.proofs.prepare.elements.Goals as goal

pub loop-one-init : goal.loop-one-init
loop-one-init c = prepared_begin (λ look. λ p. map (located_as look) p.locations.items) (λ at. λ e. map (located_as (see_from (places_of e.own c.args.places.now) at)) e.locations.items) c.args.these.now (nodes c.args.store.now) _ c.in_ok-all.ensures.items

pub loop-one-preserved : goal.loop-one-preserved
loop-one-preserved c =
    prepared_more (λ look. λ p. map (located_as look) p.locations.items) (λ at. λ e. map (located_as (see_from (places_of e.own c.args.places.now) at)) e.locations.items) c.args.these.now (nodes c.args.store.now) (nodes c.loop-one.store) _
    c.loop-one.one-index c.one-item.result c.loop-one.all.items c.push.new.self.items _ c.loop-one-test.true c.one-item.is c.loop-one.invariant c.in_ok-push.ensures.items
    (prepared_from _ _ _ _ _ (λ at. ap (map (located_as (see_from (places_of c.one-item.result.own c.args.places.now) at))) c.as_slice.ensures.value) c.in_ok-locations.ensures)

pub returns : goal.returns
returns c =
    prepared_all (λ look. λ p. map (located_as look) p.locations.items) (λ at. λ e. map (located_as (see_from (places_of e.own c.args.places.now) at)) e.locations.items) c.args.these.now (nodes c.args.store.now) (nodes c.loop-one.store)
    c.loop-one.one-index c.loop-one.all.items c.loop-one-test.false c.loop-one.invariant
