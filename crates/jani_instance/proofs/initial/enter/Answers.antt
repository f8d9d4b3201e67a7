use Rattle.std.proofs.Common.{◌≤◌, ◌<◌, ◌∙◌, ap, length, arith}
use Rattle.jani_instance.specs.Initial.{entered}
use Rattle.jani_instance.proofs.Begins.{entered_longer, entered_within}
use Rattle.jani_instance.proofs.initial.enter.Goals as goal

pub loop-table-preserved : goal.loop-table-preserved
loop-table-preserved c =
    let short : length c.loop-table.table.items ≤ c.args.number = omega arith in
    ap (entered c.args.number) c.in_ok-push.ensures.items ∙ entered_longer c.args.number c.loop-table.table.items short ∙ c.loop-table.invariant

pub returns : goal.returns
returns c =
    let within : c.args.number < length c.loop-table.table.items = omega arith in
    entered_within c.args.number c.loop-table.table.items within ∙ c.loop-table.invariant
