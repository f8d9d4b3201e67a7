use Rattle.std.proofs.Common.{◌∙◌, ◌++◌, sym, map, None, Some, append-nil}
use Rattle.std.specs.List.{flat_map}
use Rattle.basics.specs.Lists.{at_take_all}
use Rattle.gathering.proofs.Loops.{flat_seen}
use Rattle.gathering.specs.Lists.{list_under}
use Rattle.prism_tree.specs.Syntax.{item_of}
use Rattle.prism_instance.specs.Shapes.{earned_from}
use Rattle.prism_instance.specs.Sites.{earned_of}
use Rattle.prism_instance.proofs.earnings.add_structure.Goals as goal

pub loop-item-init : goal.loop-item-init
loop-item-init c = record { silent = sym (append-nil _); named = λ x. sym (append-nil _) }

pub loop-item-preserved : goal.loop-item-preserved
loop-item-preserved c = record {
  silent = flat_seen (earned_from None c.args.k) item_of c.args.items.now c.loop-item.item-index c.item-item.result _ _ _ c.loop-item-test.true c.item-item.is c.loop-item.invariant.silent c.in_ok-add_item.ensures.silent;
  named = λ x.
      flat_seen (earned_from (Some x) c.args.k) item_of c.args.items.now c.loop-item.item-index c.item-item.result _ _ _ c.loop-item-test.true c.item-item.is (c.loop-item.invariant.named x)
      (c.in_ok-add_item.ensures.named x);
}

pub returns-clause-silent : goal.returns-clause-silent
returns-clause-silent c =
    c.loop-item.invariant.silent
    ∙ at_take_all (λ l. map earned_of c.args.all.now.silent.items ++ flat_map (earned_from None c.args.k) (map item_of l)) c.args.items.now c.loop-item.item-index c.loop-item-test.false

pub returns-clause-named : goal.returns-clause-named
returns-clause-named c = λ x.
    c.loop-item.invariant.named x
    ∙ at_take_all (λ l. map earned_of (list_under c.args.all.now.named x) ++ flat_map (earned_from (Some x) c.args.k) (map item_of l)) c.args.items.now c.loop-item.item-index c.loop-item-test.false
