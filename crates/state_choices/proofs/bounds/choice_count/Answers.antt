use Rattle.std.proofs.Common.{◌∙◌, ◌*◌, ap, sym, List, arith}
use Rattle.std.specs.Borrow.{Bor}
use Rattle.std.specs.List.{count_by}
use Rattle.op_trees.specs.Tree.{capped}
use Rattle.state_choices.specs.declared.data.Command.{Command}
use Rattle.state_choices.specs.Views.{command_of}
use Rattle.state_choices.specs.Counted.{may_hold}
use Rattle.state_choices.proofs.Capped.{times_more, times_all}
use Rattle.state_choices.proofs.Counting.{choice_count_is}
use Rattle.state_choices.proofs.bounds.choice_count.Goals as goal

pub loop-list-preserved : goal.loop-list-preserved
loop-list-preserved c = record {
  so_far =
      times_more (λ (m : Bor (List Command)). count_by (λ r. may_hold (command_of r)) m.now) c.as_slice-list-items.result.now c.loop-list.list-index c.list-item.result c.loop-list.count _ _ c.loop-list-test.true c.list-item.is
      (c.saturating_mul-count.ensures ∙ ap (λ n. capped (c.loop-list.count * n)) c.open_count.ensures) c.loop-list.invariant.so_far;
  fits = let e = c.saturating_mul-count.ensures in omega arith;
}

pub returns : goal.returns
returns c =
    times_all (λ (m : Bor (List Command)). count_by (λ r. may_hold (command_of r)) m.now) c.as_slice-list-items.result.now c.loop-list.list-index c.loop-list.count _ c.loop-list-test.false c.loop-list.invariant.fits c.loop-list.invariant.so_far
    ∙ ap capped (sym (choice_count_is c.args.group.now))
