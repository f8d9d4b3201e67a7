use Rattle.std.proofs.Common.{sym, ap₂, ◌∙◌}
use Rattle.op_trees.specs.Meaning.{both_answer}
use Rattle.expr_store.proofs.Valued.{two_of_values}
use Rattle.expr_store.proofs.answers.value_of_two.Goals as goal

pub returns-in-Ok : goal.returns-in-Ok
returns-in-Ok g c =
    let m = g.O.Operator.meaning in
    two_of_values m c.args.o (sym c.is_strict.ensures ∙ c.if-not-is_strict.false) c.args.x c.args.y c.in-Ok.v
    (ap₂ (both_answer m c.args.o) (sym c.held.ensures) (sym c.held-2.ensures) ∙ sym c.apply_both.ensures ∙ c.in-Ok.is)
