use Rattle.expr_store.specs.Views.{nodes}
use Rattle.op_trees.specs.Seen.{Seen}
use Rattle.jani_instance.specs.Prepared.{places_in, see_from}
use Rattle.jani_instance.specs.Shapes.{Edge, acting_as}
use Rattle.jani_instance.proofs.Prepared.{prepared_begin, prepared_more, prepared_all, prepared_whole}
use Rattle.jani_instance.proofs.prepare.acting.Goals as goal

pub loop-one-init : goal.loop-one-init
loop-one-init c = prepared_begin (λ look. acting_as look) (λ at. acting_as (see_from (places_in c.args.scope.now) at)) c.args.these.now (nodes c.args.store.now) _ c.in_ok-all.ensures.items

pub loop-one-preserved : goal.loop-one-preserved
loop-one-preserved c =
    prepared_more (λ look. acting_as look) (λ at. acting_as (see_from (places_in c.args.scope.now) at)) c.args.these.now (nodes c.args.store.now) (nodes c.loop-one.store) _
    c.loop-one.one-index c.one-item.result c.loop-one.all.items c.push.new.self.items _ c.loop-one-test.true c.one-item.is c.loop-one.invariant c.in_ok-push.ensures.items
    (prepared_whole (λ (e : Edge Seen). record { number = c.one-item.result.action; value = e }) _ _ _ _ c.in_ok-edge.ensures)

pub returns : goal.returns
returns c =
    prepared_all (λ look. acting_as look) (λ at. acting_as (see_from (places_in c.args.scope.now) at)) c.args.these.now (nodes c.args.store.now) (nodes c.loop-one.store)
    c.loop-one.one-index c.loop-one.all.items c.loop-one-test.false c.loop-one.invariant
