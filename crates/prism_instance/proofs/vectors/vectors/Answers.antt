use Rattle.std.proofs.Common.{List, ℕ, map}
use Rattle.std.specs.Borrow.{Bor}
use Rattle.expr_store.specs.Alike.{made_all, made_more, made_none}
use Rattle.expr_store.specs.Views.{nodes}
use Rattle.gathering.specs.Lists.{list_under}
use Rattle.prism_instance.specs.Sites.{earned_of, linked_at, linked_with}
use Rattle.prism_instance.proofs.vectors.vectors.Goals as goal

pub loop-action-init : goal.loop-action-init
loop-action-init c = λ n shared.
    made_none (λ at v. linked_at at n shared v) (λ seen a. linked_with seen n (λ x. map earned_of (list_under c.args.items.now x)) (λ x. list_under c.args.links.now x) a)
    (λ (x : Bor (List ℕ)). x.now) c.args.actions.now (nodes c.args.store.now) c.in_ok-all.all.items c.in_ok-all.ensures.items

pub loop-action-preserved : goal.loop-action-preserved
loop-action-preserved c = λ n shared.
    made_more (λ at v. linked_at at n shared v) (λ seen a. linked_with seen n (λ x. map earned_of (list_under c.args.items.now x)) (λ x. list_under c.args.links.now x) a)
    (λ (x : Bor (List ℕ)). x.now) c.args.actions.now (nodes c.args.store.now) (nodes c.loop-action.store) (nodes c.vector.new.store)
    c.loop-action.action-index c.action-item.result c.loop-action.all.items c.push.new.self.items c.in_ok-one.one c.loop-action-test.true c.action-item.is c.in_ok-push.ensures.items
    (c.loop-action.invariant n shared)
    (c.in_ok-one.ensures n shared)

pub returns : goal.returns
returns c = λ n shared.
    made_all (λ at v. linked_at at n shared v) (λ seen a. linked_with seen n (λ x. map earned_of (list_under c.args.items.now x)) (λ x. list_under c.args.links.now x) a)
    (λ (x : Bor (List ℕ)). x.now) c.args.actions.now (nodes c.args.store.now) (nodes c.loop-action.store) c.loop-action.action-index c.loop-action.all.items c.loop-action-test.false
    (c.loop-action.invariant n shared)
