use Rattle.std.specs.Prelude.{[], map}
use Rattle.std.proofs.lemmas.Result.{IfOk-weaker}
use Rattle.bridge_io.specs.declared.reason.Named.{Named}
use Rattle.std.specs.Prelude.{List, ◌≡◌}
use Rattle.name_rules.specs.Least.{soonest}
use Rattle.name_rules.specs.Doubled.{doubled, doubled_after}
use Rattle.name_rules.specs.Doubled.{IsLowest}
use Rattle.name_rules.specs.Names.{named_by}
use Rattle.name_rules.proofs.doubled.judge_doubled.Goals as goal

pub returns : goal.returns
returns c =
    IfOk-weaker c.judge_doubled_after.result
    (λ best. (ns : List Named) → IsLowest c.new-earlier.result ns → best ≡ soonest c.args.before (doubled_after c.args.reason ns (map named_by c.args.names.now)))
    (λ best. best ≡ soonest c.args.before (doubled c.args.reason (map named_by c.args.names.now)))
    (λ best h. h [] c.new-earlier.ensures) c.judge_doubled_after.ensures
