use Rattle.std.proofs.Common.{◌∙◌, List, map, sym, ap, refl}
use Rattle.std.specs.Borrow.{Bor}
use Rattle.process_core.specs.Product.{map-map}
use Rattle.state_choices.specs.declared.data.Command.{Command}
use Rattle.state_choices.specs.Views.{command_of, group_of, sum_of}
use Rattle.state_choices.specs.Members.{silent_of, of_action}
use Rattle.state_choices.proofs.Gathered.{map_after}
use Rattle.state_choices.proofs.MemberLaws.{same_group}
use Rattle.state_choices.proofs.groups.module_groups.Goals as goal

pub loop-action-preserved : goal.loop-action-preserved
loop-action-preserved c =
    let ms = c.args.members.now in
    map_after group_of (of_action ms) (map (silent_of c.args.rewards.now) ms) c.args.actions.now c.loop-action.action-index c.action-item.result c.loop-action.groups.items c.push.new.self.items _
    c.loop-action-test.true c.action-item.is c.loop-action.invariant c.in_ok-push.ensures.items
    (same_group _ _ _ _ _ _ refl (ap (map sum_of) c.as_slice.ensures)
    (sym (map-map (map command_of) (λ (l : Bor (List Command)). l.now) c.in_ok-shared_lists.field-0.items) ∙ ap (map (map command_of)) c.in_ok-shared_lists.ensures))
