use Rattle.std.proofs.Common.{sym, ap, ◌∙◌}
use Rattle.op_trees.specs.Meaning.{one_answer}
use Rattle.expr_store.proofs.Valued.{one_of_value}
use Rattle.expr_store.proofs.answers.value_of_one.Goals as goal

pub returns-in-Ok : goal.returns-in-Ok
returns-in-Ok g c =
    let m = g.O.Operator.meaning in
    one_of_value m c.args.o (sym c.is_strict.ensures ∙ c.if-not-is_strict.false) c.args.x c.in-Ok.v (ap (one_answer m c.args.o) (sym c.held.ensures) ∙ sym c.apply_one.ensures ∙ c.in-Ok.is)
