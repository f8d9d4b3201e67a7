use Rattle.std.specs.Prelude.{None}
use Rattle.std.proofs.Common.{◌∙◌, ap}
use Rattle.op_trees.specs.Tree.{capped}
use Rattle.bridge_io.specs.declared.reason.Reason.TheVariants.{TooLarge}
use Rattle.name_rules.specs.Least.{fault_if, soonest}
use Rattle.prop_check.specs.Sized.{highest, nodes}
use Rattle.prop_check.proofs.Measuring.{too_large_is}
use Rattle.prop_check.proofs.sizes.judge_sizes.Goals as goal

pub returns : goal.returns
returns c = λ ps h.
    let file = c.args.scope.now.file in
    let size = c.parts_size-size.result in
    c.sooner_if.ensures
    ∙ ap (λ b. soonest None (fault_if b 0 TooLarge)) c.is_too_large.ensures
    ∙ ap (soonest None)
    (too_large_is file ps size.nodes size.height
    (c.parts_size-size.ensures.nodes ∙ ap (λ xs. capped (nodes file xs)) h)
    (c.parts_size-size.ensures.height ∙ ap (λ xs. capped (highest file xs)) h))
