use Rattle.std.proofs.Common.{rules, sym, subst}
use Rattle.command_words.proofs.Pairs.{AreRead, more_read}
use Rattle.command_words.proofs.numbers.pairs_in.Goals as goal

pub loop-front-preserved : goal.loop-front-preserved
loop-front-preserved c = (
  search rules,
  subst (λ ps. AreRead c.args.text.now ps c.in-Some-rest.more.now) (sym c.in_ok-push.ensures.ok)
      (more_read c.args.text.now c.loop-front.pairs c.loop-front.rest.now c.in-Some.front.pair c.in-Some-rest.more.now c.loop-front.invariant.1 (rw c.in-Some-rest.is at c.in-Some.ensures)),
)
