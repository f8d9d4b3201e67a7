use Rattle.std.proofs.Common.{◌≡◌, map, take}
use Rattle.std.specs.List.{filter}
use Rattle.prism_check.specs.Moment.{adds_of}
use Rattle.prism_check.specs.Process.{is_for_states}
use Rattle.prism_tree.specs.Syntax.{item_of}
use Rattle.prism_instance.specs.Views.{items_of}
use Rattle.prism_instance.proofs.earnings.state_items.Given as goal

abbrev pub invariant-loop-item : goal.invariant-loop-item
invariant-loop-item l = items_of l.these.items ≡ filter (λ i. is_for_states (adds_of i.on)) (map item_of (take l.item-index l.items))
