use Rattle.std.proofs.Common.{◌∙◌, ap, map}
use Rattle.basics.specs.Lists.{at_take_all}
use Rattle.gathering.specs.Lists.{list_for}
use Rattle.state_choices.specs.Views.{command_of}
use Rattle.instance_start.specs.Numbered.{of_number}
use Rattle.instance_start.proofs.Numbered.{of_more}
use Rattle.jani_instance.specs.Views.{acting_seen, columns_of, look_at, setting_of}
use Rattle.jani_instance.proofs.groups.acting.Goals as goal

pub loop-one-init : goal.loop-one-init
loop-one-init c = (c.requires, λ n. ap (map command_of) (c.new-all.ensures n))

pub loop-one-preserved : goal.loop-one-preserved
loop-one-preserved c =
    let k = setting_of c.args.here.now in (
      c.in_ok-command.ensures.0,
      λ n. of_more n command_of (acting_seen (columns_of k) (look_at k) c.args.i) c.args.these.now c.loop-one.one-index c.one-item.result c.in_ok-command.command
          (list_for c.loop-one.all n) (list_for c.add.new.self n) c.loop-one-test.true c.one-item.is (c.loop-one.invariant.1 n) (c.in_ok-add.ensures n) c.in_ok-command.ensures.1,
    )

pub returns : goal.returns
returns c =
    let k = setting_of c.args.here.now in (
      c.loop-one.invariant.0,
      λ n. c.loop-one.invariant.1 n ∙ at_take_all (λ l. of_number n (map (acting_seen (columns_of k) (look_at k) c.args.i) l)) c.args.these.now c.loop-one.one-index c.loop-one-test.false,
    )
