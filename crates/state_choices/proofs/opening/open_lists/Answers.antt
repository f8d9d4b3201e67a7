use Rattle.std.proofs.Common.{◌∙◌, List, map, sym, ap}
use Rattle.std.specs.Borrow.{Bor}
use Rattle.std.specs.List.{filter}
use Rattle.basics.specs.Lists.{at_take_all}
use Rattle.process_core.specs.Product.{map-map}
use Rattle.state_choices.specs.declared.data.Command.{Command}
use Rattle.state_choices.specs.Views.{command_of}
use Rattle.state_choices.specs.Counted.{may_hold}
use Rattle.state_choices.proofs.opening.open_lists.Goals as goal

pub returns : goal.returns
returns c =
    let opened = λ (m : Bor (List Command)). filter may_hold (map command_of m.now) in
    c.loop-list.invariant
    ∙ at_take_all (map opened) c.as_slice-list-items.result.now c.loop-list.list-index c.loop-list-test.false
    ∙ ap (map opened) c.as_slice-list-items.ensures.value
    ∙ sym (map-map (filter may_hold) (λ (m : Bor (List Command)). map command_of m.now) c.args.group.now.lists.items)
