use Rattle.std.proofs.Common.{◌≢◌, ◌∙◌, sym, subst, map}
use Rattle.std.specs.List.{AllByRecursion}
use Rattle.std.proofs.lemmas.List.{take_all}
use Rattle.basics.specs.Texts.{bytes_eq-true}
use Rattle.command_words.proofs.Forms.{differ}
use Rattle.command_words.proofs.Names.{one_more_other, other_than}
use Rattle.command_words.proofs.claims.is_among.Goals as goal

pub loop-other-init : goal.loop-other-init
loop-other-init c = tt

pub returns-then-eq : goal.returns-then-eq
returns-then-eq c = λ all.
    other_than (λ s. s.now) c.args.word.now _ c.args.words.now c.loop-other.other-index c.loop-other-test.true all
    (sym (bytes_eq-true _ _ (sym c.eq.ensures ∙ c.if-eq.true)))

pub loop-other-preserved : goal.loop-other-preserved
loop-other-preserved c =
    one_more_other (λ s. s.now) c.args.word.now _ c.args.words.now c.loop-other.other-index c.loop-other-test.true c.loop-other.invariant
    (λ e. differ _ _ (sym c.eq.ensures ∙ c.if-eq.false) (sym e))

pub returns : goal.returns
returns c =
    subst (λ ws. AllByRecursion (λ name. c.args.word.now ≢ name) (map (λ s. s.now) ws)) (take_all c.loop-other.other-index c.args.words.now c.loop-other-test.false) c.loop-other.invariant
