use Rattle.std.proofs.Common.{◌≡◌, ◌++◌, drop}
use Rattle.prism_print.specs.Text.{listed}
use Rattle.prism_print.proofs.parts.write_list.Given as goal

abbrev pub invariant-loop-item : goal.invariant-loop-item
invariant-loop-item g l =
    l.out.items ++ listed l.lead l.between g.T.Canonical.text (drop l.item-index l.items) ≡ l.fn.out.items ++ listed l.before l.between g.T.Canonical.text l.items
