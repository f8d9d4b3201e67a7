use Rattle.std.proofs.Common.{sym, ap, ◌∙◌, take, get_or}
use Rattle.std.proofs.lemmas.List.{take_more}
use Rattle.prism_lex.specs.declared.automaton.State.TheVariants.{Start}
use Rattle.prism_lex.specs.Automaton.{after, step}
use Rattle.process_texts.proofs.Numbers.{after-snoc}
use Rattle.process_texts.proofs.given.is_number.Goals as goal

pub loop-b-preserved : goal.loop-b-preserved
loop-b-preserved c =
    let w = c.args.text.now in
    let i = c.loop-b.b-index in
    c.step-state.ensures ∙ ap (λ s. step s (get_or w i 0)) c.loop-b.invariant ∙ sym (ap (after Start) (take_more w i 0 c.loop-b-test.true) ∙ after-snoc Start (take i w) (get_or w i 0))
