use Rattle.std.proofs.Common.{◌∙◌}
use Rattle.op_trees.specs.Tree.{tree}
use Rattle.prism_exprs.proofs.Symbols.{sign_applied}
use Rattle.prism_exprs.proofs.parts.with_signs.Goals as goal

pub signs-preserved : goal.signs-preserved
signs-preserved c =
    sign_applied c.args.tokens.source.now.bytes.now c.args.tokens.source.now.literals.now c.args.op c.in-Some.last.now c.signs.signs.now c.in-Some.front.now (tree c.signs.whole) (tree c.in_ok-whole.whole)
    c.in-Some.ensures.cases.0 c.in_ok-whole.ensures
    ∙ c.signs.invariant
