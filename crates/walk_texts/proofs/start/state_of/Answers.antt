use Rattle.std.proofs.Common.{sym, subst, ◌∙◌}
use Rattle.process_texts.specs.States.{ReadsState}
use Rattle.walk_texts.proofs.Starting.{invalid}
use Rattle.walk_texts.proofs.start.state_of.Goals as goal

pub returns-else-valid : goal.returns-else-valid
returns-else-valid g c =
    invalid c.text_laws.ensures.state (g.S.Steps.process c.args.s.now) c.args.word.now c.in-Some.state (subst (ReadsState c.args.word.now) c.in-Some.is c.in_ok-state.ensures) (sym c.valid.ensures ∙ c.if-valid.false)
