use Rattle.std.proofs.Common.{ap, ◌∙◌}
use Rattle.std.specs.Prelude.{bytes_eq}
use Rattle.jani_table.proofs.Found.{found_here, found_later, found_nowhere}
use Rattle.jani_props.specs.Words.{fun_of, fun_text}
use Rattle.jani_props.specs.declared.words.TheConstants.{FUNS}
use Rattle.jani_props.proofs.words.Fun.of.Goals as goal

pub returns-then-eq : goal.returns-then-eq
unfolding fun_of
returns-then-eq c = found_here (λ o. bytes_eq (fun_text o) c.args.text.now) FUNS c.loop-word.word-index _ _ _ (c.eq.ensures ∙ ap (λ s. bytes_eq s c.args.text.now) c.text.ensures) c.if-eq.true c.loop-word-test.true c.loop-word.invariant

pub loop-word-preserved : goal.loop-word-preserved
loop-word-preserved c = found_later (λ o. bytes_eq (fun_text o) c.args.text.now) FUNS c.loop-word.word-index _ _ _ (c.eq.ensures ∙ ap (λ s. bytes_eq s c.args.text.now) c.text.ensures) c.if-eq.false c.loop-word-test.true c.loop-word.invariant

pub returns : goal.returns
unfolding fun_of
returns c = found_nowhere (λ o. bytes_eq (fun_text o) c.args.text.now) FUNS c.loop-word.word-index _ c.loop-word-test.false c.loop-word.invariant
